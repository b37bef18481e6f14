use Rattle.std.proofs.lemmas.Result.{IfOk-weaker}
use Rattle.file_loading.specs.Loading.{IsLoadedBookText, IsLoadedHeld, IsLoadedText}
use Rattle.file_loading.proofs.HeldFileLaws.{loaded-book, loaded-table}
use Rattle.file_loading.proofs.loading.load_any.Goals as goal

pub returns-then-is_book : goal.returns-then-is_book
returns-then-is_book c = record {
  loaded = IfOk-weaker c.load_book.result (IsLoadedBookText c.args.bytes.now) (IsLoadedHeld c.args.bytes.now)
      (λ loaded is. loaded-book c.args.bytes.now loaded (c.is_book.ensures.book.0 c.if-is_book.true) is) c.load_book.ensures.loaded;
}

pub returns-else-is_book : goal.returns-else-is_book
returns-else-is_book c = record {
  loaded = IfOk-weaker c.load.result (IsLoadedText c.args.bytes.now) (IsLoadedHeld c.args.bytes.now)
      (λ loaded is. loaded-table c.args.bytes.now loaded
      (λ begins. let yes = c.is_book.ensures.book.1 begins in let no = c.if-is_book.false in cc) is) c.load.ensures.loaded;
}
