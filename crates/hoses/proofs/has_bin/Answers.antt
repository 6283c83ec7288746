-- A set shifted by the bin, under the mask 1, is the bin's bit, and beyond 64 bins there is none.
use Rattle.std.proofs.Common.{◌≡◌, ℕ, eqb, sym, ◌∙◌, ap, arith}
use borrow.Author.Tests.{le-ltb, ne_eqb}
use Rattle.rules.specs.Crossing.{bit}
use Rattle.hoses.proofs.Bits.{bit-beyond, bit_tested}
use Rattle.hoses.proofs.has_bin.Goals as goal

pub returns-then-bin-lt64 : goal.returns-then-bin-lt64
returns-then-bin-lt64 c = ap (λ (n : ℕ). eqb n 1) (bit_tested c.args.set c.args.bin)

pub returns-else-bin-lt64 : goal.returns-else-bin-lt64
returns-else-bin-lt64 c =
    let none : bit c.args.set c.args.bin ≡ 0 = bit-beyond c.args.set 64 c.args.bin (omega arith) (omega arith) in
    le-ltb c.args.bin 64 (omega arith) ∙ sym (ne_eqb (bit c.args.set c.args.bin) 1 (λ e. omega arith))
