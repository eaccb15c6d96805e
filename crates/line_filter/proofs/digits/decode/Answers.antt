use Rattle.std.proofs.Common.{◌+◌, ◌*◌, slice_index, arith}
use Rattle.std.proofs.lemmas.Bool.{OnTrue_at, OnFalse_at}
use Rattle.hex.proofs.Pairs.{decode_start, decode_step}
use Rattle.line_filter.proofs.Spelling.{pair_reads, pair_refuses_first, pair_refuses_second, spells_all, spells_none}
use Rattle.line_filter.proofs.Blocks.{decode_more}
use Rattle.line_filter.proofs.digits.decode.Goals as goal
use Rattle.line_filter.proofs.digits.decode.Goals.{then-loop-bytes-test+else-decode_block, else-loop-bytes-test}

pub returns-then-values-digits-gt15 : goal.returns-then-values-digits-gt15
returns-then-values-digits-gt15 c =
    let digits = c.args.digits.now in
    let first = c.type_inv.digits 0 in
    let bad = pair_refuses_first c.args.values.now (slice_index digits 0) (slice_index digits 1) 0 c.requires.table
    (omega arith) (omega arith) in
    spells_none digits c.args.bytes.now 0 _ c.if-digits-ne0.false (omega arith) bad
    (decode_start digits c.args.bytes.now)

pub loop-bytes-preserved : goal.loop-bytes-preserved
loop-bytes-preserved c =
    let is = OnTrue_at c.if-decode_block.true c.decode_block.ensures.read in record {
      within = omega arith;
      read = decode_more c.args.digits.now c.loop-bytes.bytes c.decode_block.new.bytes c.loop-bytes.done (omega arith)
          is c.loop-bytes.invariant.read;
    }

pub loop-i-init : goal.loop-i-init
loop-i-init c =
    elim c.loop-bytes-test.branch [
      | then-loop-bytes-test+else-decode_block w ↦
          rw (w.bytes-is, OnFalse_at w.if-decode_block.false w.decode_block.ensures.kept) c.loop-bytes.invariant.read
      | else-loop-bytes-test w ↦ rw w.bytes-is c.loop-bytes.invariant.read
    ]

pub returns-then-high-gt15 : goal.returns-then-high-gt15
returns-then-high-gt15 c =
    let first = c.type_inv.digits (2 * c.loop-i.i) in
    let bad = pair_refuses_first c.args.values.now (slice_index c.args.digits.now (2 * c.loop-i.i))
    (slice_index c.args.digits.now (2 * c.loop-i.i + 1)) (2 * c.loop-i.i) c.requires.table (omega arith)
    (omega arith) in
    spells_none _ c.loop-i.bytes c.loop-i.i _ c.if-digits-ne0.false (omega arith) bad c.loop-i.invariant

pub returns-then-low-gt15 : goal.returns-then-low-gt15
returns-then-low-gt15 c =
    let first = c.type_inv.digits (2 * c.loop-i.i) in
    let second = c.type_inv.digits (2 * c.loop-i.i + 1) in
    let bad = pair_refuses_second c.args.values.now (slice_index c.args.digits.now (2 * c.loop-i.i))
    (slice_index c.args.digits.now (2 * c.loop-i.i + 1)) (2 * c.loop-i.i) c.requires.table (omega arith) (omega arith)
    (omega arith) (omega arith) in
    spells_none _ c.loop-i.bytes c.loop-i.i _ c.if-digits-ne0.false (omega arith) bad c.loop-i.invariant

pub loop-i-preserved : goal.loop-i-preserved
loop-i-preserved c =
    let first = c.type_inv.digits (2 * c.loop-i.i) in
    let second = c.type_inv.digits (2 * c.loop-i.i + 1) in
    let good = pair_reads c.args.values.now (slice_index c.args.digits.now (2 * c.loop-i.i))
    (slice_index c.args.digits.now (2 * c.loop-i.i + 1)) (2 * c.loop-i.i) c.requires.table (omega arith) (omega arith)
    (omega arith) (omega arith) in
    decode_step _ c.loop-i.bytes c.loop-i.i _ (omega arith) (omega arith) good c.loop-i.invariant

pub returns : goal.returns
returns c = spells_all _ c.loop-i.bytes c.loop-i.i c.if-digits-ne0.false (omega arith) (omega arith) c.loop-i.invariant
