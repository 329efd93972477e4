-- "Operators decide after the checks whether a frame goes into this pass" (document 02, A7): what look and take make together.
use Rattle.std.specs.Prelude.{◌≡◌, ◌⊎◌, ℕ, Bool, true, false, cond, ◌&&◌, List, [], ◌∷◌, get_or, Option}
use Rattle.std.proofs.Common.{inl, inr}
use Rattle.rules.specs.declared.Setting.{Setting}
use Rattle.rules.specs.declared.Reader.{Reader}
use Rattle.rules.specs.declared.Class.{Class}
use Rattle.rules.specs.declared.Answer.{Answer}
use Rattle.rules.specs.declared.Looked.{Looked}
use Rattle.rules.specs.declared.Passed.{Passed}
use Rattle.rules.specs.declared.Verdict.{Verdict}
use Rattle.rules.specs.Tests.{first, none, at}
use Rattle.rules.specs.Settings.{channel}
use Rattle.rules.specs.Refusals.{channel_at}
use Rattle.rules.specs.Calls.{Got, read, look}
use Rattle.rules.specs.Promises.{placed, LookGives}

-- ---- whose a frame is, by what a look answers

unfoldable pub whose_of : Class → Option ℕ → Option ℕ → Verdict
whose_of Class.Idle c l = Verdict.Idle
whose_of Class.Counted c l = Verdict.Counted (placed c)
whose_of Class.Read c l = Verdict.Read (placed l)
whose_of Class.Repeat c l = Verdict.Repeat (placed c)
whose_of (Class.Refused n) c l = Verdict.Refused n

unfoldable pub whose : Looked → Verdict
whose o = whose_of o.class o.channel o.lane

-- ---- a decision by virtual channel, and a frame by it

-- A decision says of each virtual channel whether its frames are left out. A frame that is refused or idle is of no listed channel.
unfoldable pub left_out : List Bool → Setting → Looked → Bool
left_out without s o = at o.channel (λ (c : ℕ). get_or without (channel s c).vc false)

-- The lowest virtual channel that a decision leaves out and that is not listed, with either service.
unfoldable pub unlisted : List Bool → Setting → Option ℕ
unlisted without s = first 63 (λ (v : ℕ). get_or without v false && (none (channel_at s v 0) && none (channel_at s v 1)))

-- What the look said, and nothing else.
abbrev pub seen : Looked → Answer
seen o = record { class = o.class; units = 0; octets = 0; missing = o.missing; idle = 0; fill = 0; dropped = 0 }

-- A frame is looked at; it is taken, or it is left out, and then the state and all areas stay as they were.
unfoldable pub pass_by : Bool → Reader → List ℕ → List ℕ → List ℕ → List ℕ → Got
pass_by true r f h u c = record { taken = record { answer = seen (look r f); state = r }; held_area = h; unit_area = u; record_area = c }
pass_by false r f h u c = read r f h u c

unfoldable pub pass : List Bool → Reader → List ℕ → List ℕ → List ℕ → List ℕ → Got
pass without r f h u c = pass_by (left_out without r.setting (look r f)) r f h u c

-- What a pass promises of a frame, by this decision.
pub record PassGives (w : List Bool) (r : Reader) (f h u c : List ℕ) (o : Passed) (h' u' c' : List ℕ) : Type 0 where
  pub looked : LookGives r f o.looked
  pub left : o.left ≡ left_out w r.setting (look r f)
  pub got : record { taken = o.taken; held_area = h'; unit_area = u'; record_area = c' } ≡ pass w r f h u c

-- ---- looks and takes in a row, each handed what the last take left

-- A frame, and whether it is taken or looked at.
pub record Step : Type 0 where
  pub frame : List ℕ
  pub taken : Bool

-- What each answers: a look its answer, a take everything that comes back.
unfoldable pub answers : Reader → List ℕ → List ℕ → List ℕ → List Step → List (Looked ⊎ Got)
answers r h u c [] = []
answers r h u c (x ∷ xs) =
    let o : Got = read r x.frame h u c in
    cond x.taken (inr o ∷ answers o.taken.state o.held_area o.unit_area o.record_area xs)
    (inl (look r x.frame) ∷ answers r h u c xs)

-- The answers of the takes alone, and the steps that are takes.
unfoldable pub of_takes : List (Looked ⊎ Got) → List (Looked ⊎ Got)
of_takes [] = []
of_takes (inl o ∷ xs) = of_takes xs
of_takes (inr o ∷ xs) = inr o ∷ of_takes xs

unfoldable pub only_taken : List Step → List Step
only_taken [] = []
only_taken (x ∷ xs) = cond x.taken (x ∷ only_taken xs) (only_taken xs)
