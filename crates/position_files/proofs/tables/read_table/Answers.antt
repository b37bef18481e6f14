use Rattle.std.proofs.Common.{◌≡◌, sym, subst, ◌∷◌, ◌++◌, codes}
use Rattle.std.proofs.lemmas.Result.{IfOk-weaker}
use Rattle.position_files.proofs.Common.{TableFile, line_feed, IsTextOfTable}
use Rattle.position_files.proofs.TableTexts.{one_table}
use Rattle.position_files.proofs.TableBad.{no_version}
use Rattle.position_files.proofs.tables.read_table.Goals as goal

pub returns-in-Some-clause-only : goal.returns-in-Some-clause-only
returns-in-Some-clause-only c =
    IfOk-weaker c.read_attack.result (λ (file : TableFile). IsTextOfTable file (codes "renju-table 1" ++ line_feed ∷ c.in-Some.rest.now))
    (λ (file : TableFile). (other : TableFile) → IsTextOfTable other c.args.bytes.now → other ≡ file)
    (λ file text other is. one_table file other c.args.bytes.now (subst (IsTextOfTable file) (sym c.in-Some.ensures.rest.1) text) is)
    c.read_attack.ensures.text

pub returns-in-Some-after-clause-only : goal.returns-in-Some-after-clause-only
returns-in-Some-after-clause-only c = IfOk-weaker c.read_defend.result
    (λ (file : TableFile). IsTextOfTable file (codes "renju-table 2" ++ line_feed ∷ c.in-Some-after.rest.now))
    (λ (file : TableFile). (other : TableFile) → IsTextOfTable other c.args.bytes.now → other ≡ file)
    (λ file text other is. one_table file other c.args.bytes.now (subst (IsTextOfTable file) (sym c.in-Some-after.ensures.rest.1) text) is)
    c.read_defend.ensures.text

pub returns-clause-refused : goal.returns-clause-refused
returns-clause-refused c = no_version c.args.bytes.now (λ rest e. c.in_default.ensures.rest rest tt e)
    (λ rest e. c.in_default-after.ensures.rest rest tt e)
