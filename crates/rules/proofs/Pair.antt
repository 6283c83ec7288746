-- One answer fits a pair: two that do are equal. Whatever is cross by the rules is such an answer.
use mathlib.Core.Path.{◌≡◌, sym, ◌∙◌, subst⁻¹}
use Prim.Native.Nat.{ℕ, ◌≤◌}
use Rattle.rules.specs.Crossing.{profile, cross}
use Rattle.rules.specs.Pair.{Paired}
use Rattle.rules.proofs.Largest.{pair_at_most}

pub only_one : (a b r s : ℕ) → Paired a b r → Paired a b s → r ≡ s
only_one a b r s R S = R.crossings ∙ sym S.crossings

pub is_paired : (a b r : ℕ) → r ≡ cross (profile a) (profile b) → Paired a b r
is_paired a b r e = record { crossings = e; at_most = subst⁻¹ (λ (n : ℕ). n ≤ 2016) e (pair_at_most a b) }
