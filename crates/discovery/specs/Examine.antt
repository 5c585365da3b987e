-- How `examine` knows whether two copies are in step from their present records and from what discovery answers for them, without
-- a second look at the copies. Private contracts cite this; nothing public does.
use Rattle.std.specs.Prelude.{ℕ, Bool, false, ◌&&◌, List, Option, Some, None, Result, Ok, Err, is_ok}
use Rattle.refusal.specs.Numbers.{no_block}
use Rattle.refusal.specs.Reasons.{reason}
use Rattle.refusal.specs.declared.Reason.{Reason}
use Rattle.layout.specs.declared.Side.{Side}
use Rattle.block.specs.declared.BlockFields.{BlockFields}
use Rattle.block.specs.Entry.{same_time, time_of}
use Rattle.copy.specs.declared.Present.{Present}
use Rattle.copy.specs.declared.PresentReading.{PresentReading}
use Rattle.copy.specs.Copy.{current}
use Rattle.discovery.specs.declared.Found.{Found}
use Rattle.discovery.specs.declared.Examined.{Examined}
use Rattle.discovery.specs.Discovery.{alone_of, together_of, same_device, same_uuids, decide}

-- both present records have one time
abbrev pub one_time : Option Present → Option Present → Bool
one_time None q = false
one_time (Some p) None = false
one_time (Some p) (Some q) = same_time (time_of p.holding) (time_of q.holding)

-- two copies of one identity with these present records are in step where both are current and have one time, and discovery, which
-- compares their bytes then, does not refuse them
abbrev pub step_both : List ℕ → List ℕ → BlockFields → BlockFields → Option Present → Option Present → Bool
step_both f b x y p q = (current x p && current y q) && (one_time p q && is_ok (together_of f b x y p q))

abbrev pub examine_both : List ℕ → List ℕ → BlockFields → BlockFields → Option Present → Option Present → Examined
examine_both f b x y p q = record { answer = together_of f b x y p q; step = step_both f b x y p q }

-- a copy that is read alone, since the other is refused
abbrev pub read_alone : Side → Result PresentReading Reason → Reason → Result Found Reason
read_alone s (Err n) e = Err (reason no_block)
read_alone s (Ok r) e = alone_of s r.block.fields r.present e

abbrev pub step_with : Result PresentReading Reason → Result PresentReading Reason → List ℕ → List ℕ → Bool
step_with (Err m) s f b = false
step_with (Ok r) (Err n) f b = false
step_with (Ok r) (Ok s) f b =
    (same_device r.block.fields s.block.fields && same_uuids r.block s.block)
    && step_both f b r.block.fields s.block.fields r.present s.present

-- what `examine` answers, by what reading the two copies answered
abbrev pub examine_of : Result PresentReading Reason → Result PresentReading Reason → List ℕ → List ℕ → Examined
examine_of r s f b = record { answer = decide r s f b; step = step_with r s f b }
