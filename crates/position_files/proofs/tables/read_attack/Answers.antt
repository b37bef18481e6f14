use Rattle.std.proofs.Common.{refl, sym, subst, ◌∙◌, ◌-◌, ◌∷◌, ◌++◌, arith, codes}
use Rattle.std.proofs.lemmas.Result.{IfOk-weaker, IfErr-weaker}
use Rattle.position_files.proofs.Common.{Attack, TableFile, line_feed, FirstBad, IsTextOfTable, IsTableText, IsFinished, IsFinishFault}
use Rattle.position_files.proofs.Common.{IsTableFault}
use Rattle.text_lines.proofs.TextLaws.{no_bytes, some_bytes}
use Rattle.position_files.proofs.TableLaws.{attack_text, attack_text_of}
use Rattle.position_files.proofs.TableBad.{attack_body_fault, attack_too_many, finish_fault}
use Rattle.position_files.proofs.tables.read_attack.Goals as goal

pub returns-clause-text : goal.returns-clause-text
returns-clause-text c = IfOk-weaker c.finish.result (IsFinished c.in-Ok.found.0 (Attack (c.len-len.result - 1)))
    (λ (file : TableFile). IsTextOfTable file (codes "renju-table 1" ++ line_feed ∷ c.args.bytes.now))
    (λ file done. attack_text c.in-Ok.found.0 c.len-len.result file c.args.bytes.now c.in-Ok.found.1.now c.in-Ok.ensures.fits
    c.len-len.ensures.table c.len-len.ensures.count c.in-Ok.ensures.text
    (no_bytes c.in-Ok.found.1.now (sym c.is_empty.ensures ∙ c.if-not-is_empty.false)) done) c.finish.ensures.finished

pub returns-in-Err-clause-refused : goal.returns-in-Err-clause-refused
returns-in-Err-clause-refused c = rw (c.from.ensures, c.after.ensures.error)
    (attack_body_fault (codes "renju-table 1" ++ line_feed ∷ c.args.bytes.now) c.args.bytes.now refl c.in-Err.error
    c.in-Err.ensures.refused)

pub returns-then-not-is_empty-clause-refused : goal.returns-then-not-is_empty-clause-refused
returns-then-not-is_empty-clause-refused c = subst (FirstBad IsTableText (codes "renju-table 1" ++ line_feed ∷ c.args.bytes.now))
    (let count = c.len-len.ensures.count in omega (arith, count))
    (attack_too_many (codes "renju-table 1" ++ line_feed ∷ c.args.bytes.now) c.args.bytes.now refl c.in-Ok.found.0 c.in-Ok.found.1.now
    c.in-Ok.ensures.fits c.len-len.ensures.table c.in-Ok.ensures.text
    (some_bytes c.in-Ok.found.1.now (sym c.is_empty.ensures ∙ c.if-not-is_empty.true)))

pub returns-clause-refused : goal.returns-clause-refused
returns-clause-refused c = IfErr-weaker c.finish.result
    (IsFinishFault c.in-Ok.found.0 (Attack (c.len-len.result - 1))) (IsTableFault (codes "renju-table 1" ++ line_feed ∷ c.args.bytes.now))
    (finish_fault c.in-Ok.found.0 (Attack (c.len-len.result - 1)) (codes "renju-table 1" ++ line_feed ∷ c.args.bytes.now)
    (attack_text_of c.in-Ok.found.0 c.len-len.result c.args.bytes.now c.in-Ok.found.1.now c.in-Ok.ensures.fits c.len-len.ensures.table
    c.len-len.ensures.count c.in-Ok.ensures.text (no_bytes c.in-Ok.found.1.now (sym c.is_empty.ensures ∙ c.if-not-is_empty.false))))
    c.finish.ensures.refused
