-- `outputs::fit_of`: test by test.
use mathlib.Core.Path.{◌≡◌, sym, ap, ◌∙◌}
use mathlib.Core.Bool.{false, cond}
use Rattle.std.specs.Prelude.{Option, Some}
use Rattle.files.specs.declared.Known.{Known}
use Rattle.files.specs.Known.{same_file, is_regular}
use Rattle.outputs.specs.declared.Kept.{Kept}
use Rattle.outputs.specs.declared.Obstacle.TheVariants.{Strange}
use Rattle.outputs.specs.Names.{plain_fit, fit_of}
use Rattle.outputs.proofs.fit_of.Goals as goal

-- Where there is no file.
pub returns-in_err-k : goal.returns-in_err-k
unfolding fit_of same_file
returns-in_err-k c = c.from_residual.ensures ∙ sym (ap (λ (k : Option Known). fit_of k c.args.f) c.in_err-k.was)

-- Of a file that is no input.
other_fits : (k : Option Known) (x : Known) (f : Kept) → same_file k f.setting ≡ false → same_file k f.recording ≡ false
    → k ≡ Some x → fit_of k f ≡ cond (is_regular x) (plain_fit k f.printed f.said) (Some Strange)
unfolding fit_of
other_fits k x f a b e = rw (a, b, e)

pub returns-then-regular : goal.returns-then-regular
returns-then-regular c =
    let fit = other_fits c.args.k c.in_ok-k.field-0 c.args.f (sym c.if-same.ensures) (sym c.if-same-2.ensures) c.in_ok-k.was in
    rw (fit, sym c.if-regular.ensures) c.plain_fit.ensures

pub returns-else-regular : goal.returns-else-regular
returns-else-regular c =
    let fit = other_fits c.args.k c.in_ok-k.field-0 c.args.f (sym c.if-same.ensures) (sym c.if-same-2.ensures) c.in_ok-k.was in
    rw (fit, sym c.if-regular.ensures)
