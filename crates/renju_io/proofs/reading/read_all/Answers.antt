use Rattle.std.proofs.Common.{◌+◌, ◌∙◌, sym, arith}
use Rattle.std.proofs.lemmas.Grind.{common_steps}
use Rattle.renju_io.specs.declared.TheConstants.{MAX_INPUT_BYTES}
use Rattle.renju_io.proofs.AskedCalls.{by_each, by_each_failed, few_once, few_to_end, few_to_go_on, read_goes_on}
use Rattle.renju_io.proofs.GivenBytes.{Gives-some, Gives-then}
use Rattle.renju_io.proofs.reading.read_all.Goals as goal

-- the bytes so far and those of the last read were given
pub returns-then-count-len-clause-taken : goal.returns-then-count-len-clause-taken
returns-then-count-len-clause-taken g c =
    Gives-some _ _ _ (Gives-then _ _ _ _ _ c.loop-source.invariant.0 c.in-Ok-read.ensures.given)

pub returns-then-is_err-clause-taken : goal.returns-then-is_err-clause-taken
returns-then-is_err-clause-taken g c =
    Gives-some _ _ _ (Gives-then _ _ _ _ _ c.loop-source.invariant.0 c.in-Ok-read.ensures.given)

-- each read before the last gave a byte at least
pub returns-in_default-read-clause-by_each : goal.returns-in_default-read-clause-by_each
returns-in_default-read-clause-by_each g c =
    let go_on = sym c.has_ended.ensures.told ∙ grind (arith, c.loop-source-test.true) in
    by_each_failed _ _ _ _ _ _ _ c.loop-source.invariant.0 c.in_default-read.ensures.kept
    (few_to_go_on _ _ _ _ go_on c.loop-source.invariant.4) c.read.ensures.asks

pub returns-then-count-len-clause-by_each : goal.returns-then-count-len-clause-by_each
returns-then-count-len-clause-by_each g c =
    let go_on = sym c.has_ended.ensures.told ∙ grind (arith, c.loop-source-test.true) in
    by_each _ _ _ _ _ _ _ _ c.loop-source.invariant.0 c.in-Ok-read.ensures.given
    (few_to_go_on _ _ _ _ go_on c.loop-source.invariant.4) c.read.ensures.asks

pub returns-then-is_err-clause-by_each : goal.returns-then-is_err-clause-by_each
returns-then-is_err-clause-by_each g c =
    let go_on = sym c.has_ended.ensures.told ∙ grind (arith, c.loop-source-test.true) in
    by_each _ _ _ _ _ _ _ _ c.loop-source.invariant.0 c.in-Ok-read.ensures.given
    (few_to_go_on _ _ _ _ go_on c.loop-source.invariant.4) c.read.ensures.asks

pub returns-clause-by_each : goal.returns-clause-by_each
returns-clause-by_each g c = record {
  given = c.loop-source.bytes.items;
  gives = c.loop-source.invariant.0;
  reads = few_to_end _ _ _ _ _ (omega arith) c.loop-source.invariant.4;
}

-- and before the last there were no more bytes than an input may have
pub returns-in_default-read-clause-few_reads : goal.returns-in_default-read-clause-few_reads
returns-in_default-read-clause-few_reads g c =
    let go_on = sym c.has_ended.ensures.told ∙ grind (arith, c.loop-source-test.true) in
    few_once _ (MAX_INPUT_BYTES + 1) _ _ _ (few_to_go_on _ _ _ _ go_on c.loop-source.invariant.4) c.read.ensures.asks
    (omega (arith, c.loop-source.invariant.1))

pub returns-then-count-len-clause-few_reads : goal.returns-then-count-len-clause-few_reads
returns-then-count-len-clause-few_reads g c =
    let go_on = sym c.has_ended.ensures.told ∙ grind (arith, c.loop-source-test.true) in
    few_once _ (MAX_INPUT_BYTES + 1) _ _ _ (few_to_go_on _ _ _ _ go_on c.loop-source.invariant.4) c.read.ensures.asks
    (omega (arith, c.loop-source.invariant.1))

pub returns-then-is_err-clause-few_reads : goal.returns-then-is_err-clause-few_reads
returns-then-is_err-clause-few_reads g c =
    let go_on = sym c.has_ended.ensures.told ∙ grind (arith, c.loop-source-test.true) in
    few_once _ (MAX_INPUT_BYTES + 1) _ _ _ (few_to_go_on _ _ _ _ go_on c.loop-source.invariant.4) c.read.ensures.asks
    (omega (arith, c.loop-source.invariant.1))

pub returns-clause-few_reads : goal.returns-clause-few_reads
returns-clause-few_reads g c = few_to_end _ MAX_INPUT_BYTES _ _ _ (omega (arith, c.loop-source.invariant.1)) c.loop-source.invariant.4

pub loop-source-preserved : goal.loop-source-preserved
loop-source-preserved g c = (
  (let gives = Gives-then _ _ _ _ _ c.loop-source.invariant.0 c.in-Ok-read.ensures.given in grind (arith, common_steps, gives)),
  grind (arith, common_steps),
  c.loop-source.invariant.2,
  c.in-Ok-read.ensures.uncounted ∙ c.loop-source.invariant.3,
  (let more = read_goes_on _ _ c.in-Ok-read.ensures.last in
      let go_on = sym c.has_ended.ensures.told ∙ grind (arith, c.loop-source-test.true) in
      few_once _ _ _ _ _ (few_to_go_on _ _ _ _ go_on c.loop-source.invariant.4) c.read.ensures.asks (grind (arith, common_steps, more))),
)
