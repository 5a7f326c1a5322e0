-- By how far the exit came.
use Rattle.std.proofs.Common.{◌≡◌, ℕ, Bool, Some, None, true, false, refl, sym, ap, ◌∙◌, subst}
use Rattle.core_world.specs.Threads.ThreadView.{ThreadView, Local}
use Rattle.core_world.specs.Trees.Plans.{CallContext}
use Rattle.core_law.specs.Logic.{Heap}
use Rattle.heap_table.specs.Kept.{Mirrors}
use Rattle.heap_table.specs.Ruled.{only}
use Rattle.heap_table.specs.declared.mirror.Mirror.{Mirror}
use Rattle.heap_table.specs.declared.quick.QuickExit.TheVariants as exits
use Rattle.heap_table.specs.declared.quick_exits.ExitPart.{ExitPart}
use Rattle.heap_table.specs.declared.quick_exits.ExitPart.TheVariants as parts
use Rattle.heap_table.specs.inner.Amid.{LeavesIdle, exit_left, lagging}
use Rattle.heap_table.specs.inner.Leaving.{IsAmidPart, KeepsPart, LatePart, PartShown, clears, ending_part, left_by, part_left}
use Rattle.heap_table.proofs.Late.{late_as}
use Rattle.heap_table.proofs.StepsLeft.{left_as}
use Rattle.heap_table.proofs.leaving.end_exit.Goals as goal

-- THE HOLD WORD is left to clear: it is cleared, and the exit is over.
module _ (p : ℕ) (logged : Bool) where
  ends : (r : ExitPart) → clears r ≡ Some logged → r ≡ ending_part logged
  ends parts.Held is = cases logged is
    where
      cases : (b : Bool) → Some false ≡ Some b → parts.Held ≡ ending_part b
      cases false same = refl
      cases true same = absurd (cc same)
  ends parts.Logged is = cases logged is
    where
      cases : (b : Bool) → Some true ≡ Some b → parts.Logged ≡ ending_part b
      cases true same = refl
      cases false same = absurd (cc same)
  ends parts.Inflating is = absurd (cc is)
  ends (parts.Raced mark found) is = absurd (cc is)
  ends (parts.Owned m owner) is = absurd (cc is)

  over : left_by p (ending_part logged) ≡ exits.Left
  over = cases logged
    where
      cases : (b : Bool) → left_by p (ending_part b) ≡ exits.Left
      cases true = refl
      cases false = refl

  over_by : (r : ExitPart) → clears r ≡ Some logged → left_by p r ≡ exits.Left
  over_by r is = ap (left_by p) (ends r is) ∙ over

keeps_nothing : (logged : Bool) (k j : ThreadView) → KeepsPart (ending_part logged) k j
keeps_nothing true k j = tt
keeps_nothing false k j = tt

pub clear_hold-requires-clause-amid : goal.clear_hold-requires-clause-amid
clear_hold-requires-clause-amid c =
    subst (IsAmidPart c.args.setting.now c.args.call.now c.args.object c.args.mirror.now (only c.args.seat.now.me.0))
    (ends c.args.place c.in-Some.logged c.args.how.now (sym c.clears.ensures ∙ c.in-Some.is)) c.requires.amid

pub returns-in-Some-clause-answer : goal.returns-in-Some-clause-answer
returns-in-Some-clause-answer c = sym (over_by c.args.place c.in-Some.logged c.args.how.now (sym c.clears.ensures ∙ c.in-Some.is))

pub returns-in-Some-clause-idle : goal.returns-in-Some-clause-idle
returns-in-Some-clause-idle c =
    subst (λ (x : _). LeavesIdle x c.args.call.now c.clear_hold.new.mirror)
    (sym (over_by c.args.place c.in-Some.logged c.args.how.now (sym c.clears.ensures ∙ c.in-Some.is))) c.clear_hold.ensures.idle

pub returns-in-Some-clause-start : goal.returns-in-Some-clause-start
returns-in-Some-clause-start c =
    subst (λ (x : ExitPart). KeepsPart x (only c.args.seat.now.me.0) (only c.clear_hold.new.seat.me.0))
    (sym (ends c.args.place c.in-Some.logged c.args.how.now (sym c.clears.ensures ∙ c.in-Some.is))) (keeps_nothing c.in-Some.logged _ _)

pub returns-in-Some-clause-leads : goal.returns-in-Some-clause-leads
returns-in-Some-clause-leads c = λ h p d l its late.
    let e = c.args.call.now in
    let o = c.args.object in
    let is = sym c.clears.ensures ∙ c.in-Some.is in
    late_as (c.clear_hold.ensures.leads h p d l its (subst (λ (x : ExitPart). LatePart h p d e o x l c.args.mirror.now (only c.args.seat.now.me.0))
    (ends c.args.place c.in-Some.logged c.args.how.now is) late)) (ap (exit_left e l o) (sym (over_by c.args.place c.in-Some.logged c.args.how.now is)))

-- IT ISN'T: what is unfinished is said.
module _ (p : ℕ) where
  still_idle : (r : ExitPart) → clears r ≡ None → (e : CallContext) (m : Mirror) → LeavesIdle (left_by p r) e m
  still_idle parts.Held is e m = absurd (cc is)
  still_idle parts.Logged is e m = absurd (cc is)
  still_idle parts.Inflating is e m = tt
  still_idle (parts.Raced mark found) is e m = tt
  still_idle (parts.Owned n owner) is e m = tt

  left_so : (r : ExitPart) → clears r ≡ None → (e : CallContext) (l : Local) (o : ℕ) → part_left e l o r ≡ exit_left e l o (left_by p r)
  left_so parts.Held is e l o = absurd (cc is)
  left_so parts.Logged is e l o = absurd (cc is)
  left_so parts.Inflating is e l o = refl
  left_so (parts.Raced mark found) is e l o = refl
  left_so (parts.Owned n owner) is e l o = refl

shown_so : (r : ExitPart) → clears r ≡ None → (g : Heap) (e : CallContext) (o : ℕ) (m : Mirror) (k : ThreadView) → PartShown g e o r m k → Mirrors (lagging e m) k
shown_so parts.Held is g e o m k shown = absurd (cc is)
shown_so parts.Logged is g e o m k shown = absurd (cc is)
shown_so parts.Inflating is g e o m k shown = shown
shown_so (parts.Raced mark found) is g e o m k shown = shown
shown_so (parts.Owned n owner) is g e o m k shown = shown

at_start : (r : ExitPart) (k : ThreadView) → KeepsPart r k k
at_start (parts.Owned n owner) k = record { local = refl; kept = refl }
at_start parts.Held k = tt
at_start parts.Logged k = tt
at_start parts.Inflating k = tt
at_start (parts.Raced mark found) k = tt

pub returns-in-None-clause-idle : goal.returns-in-None-clause-idle
returns-in-None-clause-idle c = still_idle c.args.place c.args.how.now (sym c.clears.ensures ∙ c.in-None.is) c.args.call.now _

pub returns-in-None-clause-start : goal.returns-in-None-clause-start
returns-in-None-clause-start c = at_start c.args.how.now _

pub returns-in-None-clause-leads : goal.returns-in-None-clause-leads
returns-in-None-clause-leads c = λ h p d l its late.
    let is = sym c.clears.ensures ∙ c.in-None.is in
    record {
      left = left_as late.left (left_so c.args.place c.args.how.now is c.args.call.now l c.args.object);
      home = c.stays_amid.ensures.frame.home ∙ late.home;
      mirrors = c.stays_amid.ensures.shows _ (shown_so c.args.how.now is h.heap c.args.call.now c.args.object c.args.mirror.now _ late.shown);
    }
