use Rattle.std.proofs.Common.{◌≡◌, ◌+◌, ◌<◌, ◌^◌, ◌||◌, [], ◌∷◌, drop, get_or, sym, ◌∙◌, ap, arith, add-one}
use Rattle.std.proofs.Math.Seq.{drop-cons}
use lib.Bits.{or_lt}
use lib.ListN.{drop_of_length-le}
use Rattle.rules.specs.Numbers.{stray_hose, stray_hoses}
use Rattle.jobs.proofs.Stray.{stray_is, stray_step, none_stray, none_of_none, or-false}
use Rattle.jobs.proofs.stray_hoses.Goals as goal

pub returns-then-bins-ge-MOST_BINS : goal.returns-then-bins-ge-MOST_BINS
returns-then-bins-ge-MOST_BINS c = sym (none_stray c.args.bins c.if-bins-ge-MOST_BINS.true c.args.outlets.now)

pub loop-set-init : goal.loop-set-init
loop-set-init c = (omega arith, ap (λ t. t || stray_hoses c.args.bins c.args.outlets.now) (none_of_none c.args.bins))

pub loop-set-preserved : goal.loop-set-preserved
loop-set-preserved c =
    let outlets = c.args.outlets.now in
    let at = c.loop-set.set-index in
    let all = c.loop-set.all in
    let one : get_or outlets at 0 < 2 ^ 64 = omega arith in
    let rest : drop at outlets ≡ get_or outlets at 0 ∷ drop (at + 1) outlets = rw (add-one, drop-cons outlets at 0 (omega arith)) in (
      or_lt 64 all (get_or outlets at 0) (omega arith) one,
      stray_step c.args.bins all (get_or outlets at 0) (drop (at + 1) outlets) (omega arith) one
          ∙ ap (λ l. stray_hose c.args.bins all || stray_hoses c.args.bins l) (sym rest) ∙ c.loop-set.invariant.1,
    )

pub returns : goal.returns
unfolding stray_hoses
returns c =
    let outlets = c.args.outlets.now in
    let bins = c.args.bins in
    let all = c.loop-set.all in
    let done : drop c.loop-set.set-index outlets ≡ [] = drop_of_length-le outlets {i = c.loop-set.set-index} (omega arith) in
    sym (stray_is bins all (omega arith)) ∙ sym (or-false (stray_hose bins all))
    ∙ ap (λ l. stray_hose bins all || stray_hoses bins l) (sym done) ∙ c.loop-set.invariant.1
