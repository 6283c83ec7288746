-- The powers of two below that of n, less those up to that of u.
use Rattle.std.proofs.Common.{◌≡◌, ℕ, ◌-◌, ◌*◌, ◌%◌, ◌^◌, ◌<◌, ◌≤◌, nat_eq, arith, ◌∙◌}
use Prim.Native.Nat.{suc}
use mathlib.Core.Path.{ap₂}
use native.Mathlib.Nat.{pow-suc}
use lib.Pow.{pow_mono, shl_exact}
use Rattle.rules.specs.Crossing.{bit}
use Rattle.hoses.proofs.Bits.{shl_one}
use Rattle.tables.proofs.OutletSets.{span}
use Rattle.tables.proofs.above.Goals as goal

-- what the two shifts make
all : (n : ℕ) → n ≤ 32 → (1 * 2 ^ n) % 2 ^ 64 ≡ 2 ^ n
all n few = shl_one 64 n (omega arith)

others : (u : ℕ) → u < 32 → (2 * 2 ^ u) % 2 ^ 64 ≡ 2 ^ suc u
others u low = shl_exact 2 u 64 (omega arith) (omega arith) ∙ omega (arith, pow-suc 2 u)

pub overflow_sub-result : goal.overflow_sub-result
overflow_sub-result c = omega (arith, all c.args.n c.requires.0, others c.args.u (omega arith), pow_mono c.requires.1)

pub returns : goal.returns
returns c v =
    ap₂ (λ (p q : ℕ). nat_eq (bit (p - q) v) 1) (all c.args.n c.requires.0) (others c.args.u (omega arith)) ∙ span c.args.u c.args.n v c.requires.1
