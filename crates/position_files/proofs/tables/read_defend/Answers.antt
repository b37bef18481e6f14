use Rattle.std.proofs.Common.{◌∷◌, ◌++◌, ◌∙◌, subst, sym, refl, arith, codes}
use Rattle.std.proofs.lemmas.Result.{IfOk-weaker, IfErr-weaker}
use Rattle.position_files.proofs.Common.{Answers, Defend, line_feed, FirstBad, TableFile, IsTextOfTable, IsTableText, IsFinished}
use Rattle.position_files.proofs.Common.{IsFinishFault, IsTableFault}
use Rattle.text_lines.proofs.TextLaws.{no_bytes, some_bytes}
use Rattle.position_files.proofs.TableLaws.{defend_text, defend_text_of}
use Rattle.position_files.proofs.SectionLaws.{start_text}
use Rattle.position_files.proofs.TableBad.{defend_body_fault, start_fault, defend_too_many, finish_fault}
use Rattle.position_files.proofs.tables.read_defend.Goals as goal

pub returns-in-Err-clause-refused : goal.returns-in-Err-clause-refused
returns-in-Err-clause-refused c = rw (c.from.ensures, c.after.ensures.error)
    (defend_body_fault (codes "renju-table 2" ++ line_feed ∷ c.args.bytes.now) c.args.bytes.now refl c.in-Err.error
    c.in-Err.ensures.refused)

pub returns-in-Err-read_start-clause-refused : goal.returns-in-Err-read_start-clause-refused
returns-in-Err-read_start-clause-refused c = rw (c.from-in-Err-read_start.ensures, c.after-in-Err-read_start.ensures.error)
    (start_fault (codes "renju-table 2" ++ line_feed ∷ c.args.bytes.now) c.args.bytes.now refl c.in-Ok.found.0 c.in-Ok.found.1.now
    c.in-Ok.ensures.fits c.len-len.ensures.table c.in-Ok.ensures.text
    c.width.result c.height.result c.len-len.result c.width.ensures.width c.height.ensures.height c.len-len.ensures.count
    c.in-Err-read_start.error c.in-Err-read_start.ensures.refused)

pub returns-then-not-is_empty-clause-refused : goal.returns-then-not-is_empty-clause-refused
returns-then-not-is_empty-clause-refused c =
    let a : Answers = c.in-Ok-read_start.found.0 in
    let text = start_text a c.in-Ok.found.1.now c.in-Ok-read_start.found.1.now c.in-Ok-read_start.ensures.found.text in
    let start = rw (c.width.ensures.width, c.height.ensures.height) at c.in-Ok-read_start.ensures.found.start in
    subst (FirstBad IsTableText (codes "renju-table 2" ++ line_feed ∷ c.args.bytes.now)) (omega arith)
    (defend_too_many (codes "renju-table 2" ++ line_feed ∷ c.args.bytes.now) c.args.bytes.now refl c.in-Ok.found.0 c.in-Ok.found.1.now
    c.in-Ok.ensures.fits c.len-len.ensures.table c.in-Ok.ensures.text
    a c.len-len.result _ c.len-len.ensures.count (rw c.len-len.ensures.count at start) text
    (some_bytes c.in-Ok-read_start.found.1.now (sym c.is_empty.ensures ∙ c.if-not-is_empty.true)))

pub returns-clause-text : goal.returns-clause-text
returns-clause-text c =
    let a : Answers = c.in-Ok-read_start.found.0 in
    let text = start_text a c.in-Ok.found.1.now c.in-Ok-read_start.found.1.now c.in-Ok-read_start.ensures.found.text in
    let start = rw (c.width.ensures.width, c.height.ensures.height) at c.in-Ok-read_start.ensures.found.start in
    IfOk-weaker c.finish.result (IsFinished c.in-Ok.found.0 (Defend a))
    (λ (file : TableFile). IsTextOfTable file (codes "renju-table 2" ++ line_feed ∷ c.args.bytes.now))
    (λ file done. defend_text c.in-Ok.found.0 a c.len-len.result file c.args.bytes.now c.in-Ok.found.1.now _ c.in-Ok.ensures.fits
    c.len-len.ensures.table c.len-len.ensures.count start c.in-Ok.ensures.text text
    (no_bytes c.in-Ok-read_start.found.1.now (sym c.is_empty.ensures ∙ c.if-not-is_empty.false)) done) c.finish.ensures.finished

pub returns-clause-refused : goal.returns-clause-refused
returns-clause-refused c =
    let a : Answers = c.in-Ok-read_start.found.0 in
    let text = start_text a c.in-Ok.found.1.now c.in-Ok-read_start.found.1.now c.in-Ok-read_start.ensures.found.text in
    let start = rw (c.width.ensures.width, c.height.ensures.height) at c.in-Ok-read_start.ensures.found.start in
    IfErr-weaker c.finish.result
    (IsFinishFault c.in-Ok.found.0 (Defend a)) (IsTableFault (codes "renju-table 2" ++ line_feed ∷ c.args.bytes.now))
    (finish_fault c.in-Ok.found.0 (Defend a) (codes "renju-table 2" ++ line_feed ∷ c.args.bytes.now)
    (defend_text_of c.in-Ok.found.0 a c.len-len.result c.args.bytes.now c.in-Ok.found.1.now _ c.in-Ok.ensures.fits c.len-len.ensures.table
    c.len-len.ensures.count start c.in-Ok.ensures.text text
    (no_bytes c.in-Ok-read_start.found.1.now (sym c.is_empty.ensures ∙ c.if-not-is_empty.false)))) c.finish.ensures.refused
