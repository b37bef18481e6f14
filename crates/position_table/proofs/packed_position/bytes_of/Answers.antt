use Rattle.std.proofs.Common.{◌≡◌, ◌+◌, refl, subst, arith}
use Rattle.position_table.proofs.Packing.{IsPackedTo, packed_to-none, packed_to-more, packed_to-end, packed_to-full}
use Rattle.position_table.proofs.packed_position.bytes_of.Goals as goal

pub loop-k-init : goal.loop-k-init
loop-k-init c = packed_to-none c.args.cells.now 256 refl

pub loop-k-preserved : goal.loop-k-preserved
loop-k-preserved c =
    packed_to-more c.args.cells.now c.loop-k.bytes c.loop-k.k c.whole_byte.result (omega arith) c.loop-k.invariant c.whole_byte.ensures.byte

pub returns-then-whole-eq-PACKED_BYTES : goal.returns-then-whole-eq-PACKED_BYTES
returns-then-whole-eq-PACKED_BYTES c =
    record { bytes = packed_to-full c.args.cells.now c.loop-k.bytes c.loop-k.k c.loop-k.invariant (omega arith) }

pub returns : goal.returns
returns c =
    let end : c.loop-k.k ≡ c.min-whole.result = omega arith in
    record {
      bytes = packed_to-end c.args.cells.now _ (c.min-whole.result + 1)
          (packed_to-more c.args.cells.now c.loop-k.bytes c.min-whole.result c.last_byte.result (omega arith)
          (subst (IsPackedTo c.args.cells.now c.loop-k.bytes) end c.loop-k.invariant) c.last_byte.ensures.byte) (omega arith);
    }
