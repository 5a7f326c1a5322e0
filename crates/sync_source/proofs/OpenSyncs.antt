-- A thread of a program with blocks holds just what its open `sync`s have entered, since nothing gives a value to their locals before their
-- exits.
use Rattle.std.proofs.Common.{◌≡◌, ℕ, ◌+◌, ◌-◌, ◌≤◌, ◌==◌, Bool, true, false, if◌then◌else◌}
use Rattle.std.proofs.Common.{List, [], ◌∷◌, slice_index, slice_index_or, slice_set, sum, nat_le, nat_lt}
use Rattle.std.proofs.Common.{Option, Some, None, refl, sym, ap, ◌∙◌, subst, arith, eq-eqb, leb-false, get_or-set_other}
use Rattle.std.specs.Prelude.{int_lt}
use Rattle.std.specs.List.{AllByRecursion}
use Rattle.std.proofs.lemmas.Bool.{false≢true}
use Rattle.plain_monitor.specs.Limits.{most_holds}
use Rattle.plain_monitor.specs.declared.entry.Value.{Value}
use Rattle.plain_monitor.specs.declared.entry.Value.TheVariants.{Nil, Int, Ref}
use Rattle.plain_monitor.specs.declared.entry.Fault.TheVariants.{IllegalMonitorState, TooDeep}
use Rattle.plain_monitor.specs.Objects.{same_value}
use Rattle.object_program.specs.declared.program.Code.{Code}
use Rattle.object_program.specs.declared.program.Code.TheVariants as instr
use Rattle.object_program.specs.Program.{ProgramText}
use Rattle.plain_machine.specs.declared.monitor_call.MonitorCall.{MonitorCall}
use Rattle.plain_machine.specs.declared.monitor_call.MonitorCall.TheVariants as call
use Rattle.plain_machine.specs.Thread.{ThreadState, Step, Calls, sets, faults, on_object, owner_only}
use Rattle.plain_machine.specs.Thread.{enters, step_of, local, holds_of}
use Rattle.plain_machine.proofs.Effects.{Effect, Puts, Passes, Heads, Asks, Faults, IsFrom, IsEffectOf, apply, by_effect, target_of}
use Rattle.plain_machine.proofs.Effects as effects
use Rattle.plain_monitor.proofs.Lists.{all_weaker}
use Rattle.sync_source.specs.Source.{Statements, Nothing, Plain, Sync, If, While}
use Rattle.plain_monitor.specs.declared.entry.Ending.{Ending}
use Rattle.plain_monitor.specs.declared.entry.Ending.TheVariants as ending
use Rattle.sync_source.specs.Valid.{IsPlain, assigns, is_end, HasNoEnd, EndsWell, KeepsLocals}
use Rattle.sync_source.specs.SyncThread.{Left, Over, Runs, Exits, Pays, SyncStep, GoesOn, StandsBefore}
use Rattle.sync_source.specs.SyncThread.{StopsBy, then_left, chooses, chooses_below, chooses_by, sync_step}
use Rattle.sync_source.specs.inner.Alike.{ArePlain}

-- the locals of the open `sync`s, innermost first: those whose exits are left
abbrev pub open_in : Left → List ℕ
open_in Over = []
open_in (Runs b left) = open_in left
open_in (Exits x left) = x ∷ open_in left
open_in (Pays left) = open_in left

-- these statements stand in `sync`s on these locals: nothing gives a value to the local of a `sync` that it stands in, and no `end` stands in
-- a `sync`
abbrev pub IsGuarded : List ℕ → Statements → Type 0
IsGuarded xs Nothing = Unit {0}
IsGuarded xs (Plain c rest) =
    (AllByRecursion (λ x. assigns x c ≡ false) xs × (is_end c ≡ true → xs ≡ [])) × IsGuarded xs rest
IsGuarded xs (Sync x body rest) = IsGuarded (x ∷ xs) body × IsGuarded xs rest
IsGuarded xs (If t body other rest) = IsGuarded xs body × IsGuarded xs other × IsGuarded xs rest
IsGuarded xs (While t body rest) = IsGuarded xs body × IsGuarded xs rest

no_end_guarded : (xs : List ℕ) (b : Statements) → KeepsLocals xs b → HasNoEnd b → IsGuarded xs b
no_end_guarded xs Nothing h k = tt
no_end_guarded xs (Plain c r) h k =
    ((h.0, λ e. absurd (false≢true (sym k.0 ∙ e))), no_end_guarded xs r h.1 k.1)
no_end_guarded xs (Sync x b r) h k = (no_end_guarded (x ∷ xs) b h.0 k.0, no_end_guarded xs r h.1 k.1)
no_end_guarded xs (If t b c r) h k =
    (no_end_guarded xs b h.0 k.0, no_end_guarded xs c h.1 k.1, no_end_guarded xs r h.2 k.2)
no_end_guarded xs (While t b r) h k = (no_end_guarded xs b h.0 k.0, no_end_guarded xs r h.1 k.1)

-- a body that ends well is so guarded
pub body_guarded : (b : Statements) → KeepsLocals [] b → EndsWell b → IsGuarded [] b
body_guarded Nothing h k = tt
body_guarded (Plain c Nothing) h k = ((tt, λ e. refl), tt)
body_guarded (Plain c (Plain d r)) h k = ((tt, λ e. refl), body_guarded (Plain d r) h.1 k.1)
body_guarded (Plain c (Sync x b r)) h k = ((tt, λ e. refl), body_guarded (Sync x b r) h.1 k.1)
body_guarded (Plain c (If t b d r)) h k = ((tt, λ e. refl), body_guarded (If t b d r) h.1 k.1)
body_guarded (Plain c (While t b r)) h k = ((tt, λ e. refl), body_guarded (While t b r) h.1 k.1)
body_guarded (Sync x b r) h k = (no_end_guarded (x ∷ []) b h.0 k.0, body_guarded r h.1 k.1)
body_guarded (If t b c r) h k = (no_end_guarded [] b h.0 k.0, no_end_guarded [] c h.1 k.1, body_guarded r h.2 k.2)
body_guarded (While t b r) h k = (no_end_guarded [] b h.0 k.0, body_guarded r h.1 k.1)

-- the statements that are left are guarded so, each by the `sync`s whose exits come after it
abbrev pub KeepsOpen : Left → Type 0
KeepsOpen Over = Unit {0}
KeepsOpen (Runs b left) = ArePlain b × IsGuarded (open_in left) b × KeepsOpen left
KeepsOpen (Exits x left) = KeepsOpen left
KeepsOpen (Pays left) = KeepsOpen left

abbrev IsReference : Value → Type 0
IsReference (Ref o) = Unit {0}
IsReference v = ⊥

-- 1 where the value refers to object o, and else 0
abbrev refers : Value → ℕ → ℕ
refers (Ref p) o = if p == o then 1 else 0
refers v o = 0

-- how many of these locals refer to object o
abbrev references : List Value → List ℕ → ℕ → ℕ
references locals [] o = 0
references locals (x ∷ xs) o = refers (slice_index_or locals x Nil) o + references locals xs o

-- the locals of the open `sync`s refer to objects, and each object is held as often as they refer to it
pub record HoldsOpen (open_syncs : List ℕ) (locals : List Value) (holds : ℕ → ℕ) : Type 0 where
  pub refer : AllByRecursion (λ x. IsReference (slice_index_or locals x Nil)) open_syncs
  pub held : (o : ℕ) → references locals open_syncs o ≡ holds o

-- how often the thread holds object o once it has made the call
abbrev pub held_after : ThreadState → MonitorCall → ℕ → ℕ
held_after s (call.Enter p) o = holds_of s o + (if p == o then 1 else 0)
held_after s (call.Exit p) o = holds_of s o - (if p == o then 1 else 0)
held_after s c o = holds_of s o

-- no local of these is x
abbrev pub AreOthers : ℕ → List ℕ → Type 0
AreOthers x xs = AllByRecursion (λ y. (x == y) ≡ false) xs

-- what the call answers goes to none of these locals
abbrev pub Spares : List ℕ → MonitorCall → Type 0
Spares xs (call.Get x o k) = AreOthers x xs
Spares xs (call.Hash x o) = AreOthers x xs
Spares xs (call.New x c) = AreOthers x xs
Spares xs c = Unit {0}

-- what holds of what is left for a thread, wherever it is
pub record IsKept (left : Left) (locals : List Value) (holds : ℕ → ℕ) : Type 0 where
  pub keeps : KeepsOpen left
  pub opened : HoldsOpen (open_in left) locals holds

-- what holds of a thread that stands before a call
pub record IsReadyFor (s : ThreadState) (c : MonitorCall) (left : Left) : Type 0 where
  pub spares : Spares (open_in left) c
  pub kept : IsKept left s.locals (held_after s c)

-- a thread that comes to its end holds nothing
abbrev pub IsFreeAt : List ℕ → Ending → Type 0
IsFreeAt holds ending.Done = (o : ℕ) → slice_index holds o ≡ 0
IsFreeAt holds e = Unit {0}

-- what holds after a unit
abbrev pub StepKept : ThreadState → SyncStep → Type 0
StepKept s (GoesOn left next) = IsKept left next.locals (holds_of next)
StepKept s (StandsBefore c left) = IsReadyFor s c left
StepKept s (StopsBy e) = IsFreeAt s.holds e

-- a local that is set is none of these, and so they stay as they are
set_aside : (locals : List Value) (x y : ℕ) (v : Value) → (x == y) ≡ false → slice_index_or (slice_set locals x v) y Nil ≡ slice_index_or locals y Nil
set_aside locals x y v h = get_or-set_other locals x y v Nil (λ e. false≢true (sym h ∙ eq-eqb x y (sym e)))

refer_aside : (locals : List Value) (x : ℕ) (v : Value) (xs : List ℕ)
    → AreOthers x xs → AllByRecursion (λ y. IsReference (slice_index_or locals y Nil)) xs
    → AllByRecursion (λ y. IsReference (slice_index_or (slice_set locals x v) y Nil)) xs
refer_aside locals x v [] h k = tt
refer_aside locals x v (y ∷ xs) h k =
    (subst IsReference (sym (set_aside locals x y v h.0)) k.0, refer_aside locals x v xs h.1 k.1)

references_aside : (locals : List Value) (x : ℕ) (v : Value) (xs : List ℕ) (o : ℕ)
    → AreOthers x xs → references (slice_set locals x v) xs o ≡ references locals xs o
references_aside locals x v [] o h = refl
references_aside locals x v (y ∷ xs) o h =
    ap (λ w. refers w o + references (slice_set locals x v) xs o) (set_aside locals x y v h.0)
    ∙ ap (λ n. refers (slice_index_or locals y Nil) o + n) (references_aside locals x v xs o h.1)

pub open_aside : (locals : List Value) (x : ℕ) (v : Value) (xs : List ℕ) (holds : ℕ → ℕ)
    → AreOthers x xs → HoldsOpen xs locals holds → HoldsOpen xs (slice_set locals x v) holds
open_aside locals x v xs holds h k =
    record { refer = refer_aside locals x v xs h k.refer; held = λ o. let e = references_aside locals x v xs o h in let l = k.held o in omega (arith, e, l) }

-- where no `sync` is open nothing is held
free_when : {xs : List ℕ} {locals : List Value} {holds : ℕ → ℕ} → HoldsOpen xs locals holds → xs ≡ [] → (o : ℕ) → holds o ≡ 0
free_when {xs} {locals} {holds} h e o = sym (h.held o) ∙ ap (λ (ys : List ℕ). references locals ys o) e

-- whether this is the local that an instruction gives a value
abbrev is_target_at : ℕ → Option ℕ → Bool
is_target_at y (Some x) = x == y
is_target_at y None = false

assigns_target : (y : ℕ) (c : Code) → assigns y c ≡ is_target_at y (target_of c)
assigns_target y instr.End = refl
assigns_target y c = refl

-- an instruction, where the rest is kept
module _ (s : ThreadState) (left : Left) (kept : IsKept left s.locals (holds_of s)) where
  abbrev Keeps : Step → Type 0
  Keeps a = StepKept s (then_left left a)

  sets_kept : (x : ℕ) (v : Value) → AreOthers x (open_in left) → Keeps (sets s x v)
  sets_kept x v h = record { keeps = kept.keeps; opened = open_aside s.locals x v (open_in left) (holds_of s) h kept.opened }

  module _ (p : ProgramText) (c : Code) (plain : IsPlain c) (h : AllByRecursion (λ x. assigns x c ≡ false) (open_in left)) where
    spared : (x : ℕ) → target_of c ≡ Some x → AreOthers x (open_in left)
    spared x e =
        all_weaker (λ y. assigns y c ≡ false) (λ y. (x == y) ≡ false)
        (λ y k. subst (λ (o : Option ℕ). is_target_at y o ≡ false) e (sym (assigns_target y c) ∙ k)) (open_in left) h

    ready : (k : MonitorCall) → IsFrom k c → IsReadyFor s k left
    ready (call.Enter o) from = absurd (subst IsPlain from.1 plain)
    ready (call.Exit o) from = absurd (subst IsPlain from.1 plain)
    ready (call.Get x o k) from = record { spares = spared x (ap target_of from.1); kept = kept }
    ready (call.Hash x o) from = record { spares = spared x (ap target_of from.1); kept = kept }
    ready (call.New x d) from = record { spares = spared x (ap target_of from); kept = kept }
    ready k from = record { spares = tt; kept = kept }

    effect_kept : (is_end c ≡ true → open_in left ≡ []) → (x : Effect) → IsEffectOf p s c x → Keeps (apply s x)
    effect_kept e (Puts x v) is = sets_kept x v (spared x is.0)
    effect_kept e Passes is = kept
    effect_kept e (Heads l) is = kept
    effect_kept e (Asks k) is = ready k is.0
    effect_kept e (Faults f) is = tt
    effect_kept e effects.Over is = free_when kept.opened (e (ap is_end is))

  plain_kept : (p : ProgramText) (c : Code) → IsPlain c → AllByRecursion (λ x. assigns x c ≡ false) (open_in left)
      → (is_end c ≡ true → open_in left ≡ []) → Keeps (step_of p s c)
  plain_kept p c i h e = by_effect p s Keeps c (effect_kept p c i h e)

-- the exit of an open `sync` is a call, of the object that its local refers to
pub record IsExitCall (p : ProgramText) (s : ThreadState) (x : ℕ) : Type 0 where
  pub object : ℕ
  pub refers : local s x ≡ Ref object
  pub calls : step_of p s (instr.Exit x) ≡ Calls (call.Exit object)

pub exit_calls : (p : ProgramText) (s : ThreadState) (x : ℕ) (xs : List ℕ) → HoldsOpen (x ∷ xs) s.locals (holds_of s) → IsExitCall p s x
exit_calls p s x xs h = go (local s x) refl h.refer.0
  where
    held : (o : ℕ) → local s x ≡ Ref o → 1 ≤ holds_of s o
    held o e =
        let own : refers (local s x) o ≡ 1 = ap (λ v. refers v o) e ∙ ap (λ (b : Bool). if b then 1 else 0) (eq-eqb o o refl) in
        omega (arith, own, h.held o)

    owner : (o : ℕ) (b : Bool) → nat_le 1 (holds_of s o) ≡ b → 1 ≤ holds_of s o
        → (if b then Calls (call.Exit o) else faults s IllegalMonitorState) ≡ Calls (call.Exit o)
    owner o true e k = refl
    owner o false e k = absurd (omega (arith, leb-false 1 (holds_of s o) e))

    go : (v : Value) → local s x ≡ v → IsReference (local s x) → IsExitCall p s x
    go Nil e k = absurd (subst IsReference e k)
    go (Int z) e k = absurd (subst IsReference e k)
    go (Ref o) e k = record {
      object = o;
      refers = e;
      calls = ap (λ v. on_object s v (λ q. owner_only s q IllegalMonitorState (Calls (call.Exit q)))) e ∙ owner o (nat_le 1 (holds_of s o)) refl (held o e);
    }

-- after an exit the others are held
exit_kept : (s : ThreadState) (x o : ℕ) (left : Left) → local s x ≡ Ref o → KeepsOpen left
    → HoldsOpen (x ∷ open_in left) s.locals (holds_of s) → IsReadyFor s (call.Exit o) left
exit_kept s x o left e keeps h =
    record {
      spares = tt;
      kept = record {
        keeps = keeps;
        opened = record {
          refer = h.refer.1;
          held = λ k. let own : refers (local s x) k ≡ (if o == k then 1 else 0) = ap (λ v. refers v k) e in let l = h.held k in omega (arith, own, l);
        };
      };
    }

-- an enter opens a `sync`
enter_kept : (p : ProgramText) (s : ThreadState) (x : ℕ) (b : Statements) (left : Left) → ArePlain b → IsGuarded (x ∷ open_in left) b
    → IsKept left s.locals (holds_of s) → StepKept s (then_left (Runs b (Exits x left)) (step_of p s (instr.Enter x)))
enter_kept p s x b left plain keeps kept = go (local s x) refl
  where
    ready : (o : ℕ) → local s x ≡ Ref o → IsReadyFor s (call.Enter o) (Runs b (Exits x left))
    ready o e = record {
      spares = tt;
      kept = record {
        keeps = (plain, keeps, kept.keeps);
        opened = record {
          refer = (subst IsReference (sym e) tt, kept.opened.refer);
          held = λ k. let own : refers (local s x) k ≡ (if o == k then 1 else 0) = ap (λ v. refers v k) e in
              let l = kept.opened.held k in omega (arith, own, l);
        };
      };
    }

    room : (o : ℕ) → local s x ≡ Ref o → (holds : Bool)
        → StepKept s (then_left (Runs b (Exits x left)) (if holds then Calls (call.Enter o) else faults s TooDeep))
    room o e true = ready o e
    room o e false = tt

    go : (v : Value) → local s x ≡ v → StepKept s (then_left (Runs b (Exits x left)) (on_object s (local s x) (enters s)))
    go Nil e = subst (λ (v : Value). StepKept s (then_left (Runs b (Exits x left)) (on_object s v (enters s)))) (sym e) tt
    go (Int z) e = subst (λ (v : Value). StepKept s (then_left (Runs b (Exits x left)) (on_object s v (enters s)))) (sym e) tt
    go (Ref o) e = subst (λ (v : Value). StepKept s (then_left (Runs b (Exits x left)) (on_object s v (enters s))))
        (sym e) (room o e (nat_lt (sum s.holds) most_holds))

-- a test changes nothing
module _ (s : ThreadState) (held missed : Left) (h : IsKept held s.locals (holds_of s)) (m : IsKept missed s.locals (holds_of s)) where
  chooses_kept : (holds : Bool) → StepKept s (chooses holds s held missed)
  chooses_kept true = h
  chooses_kept false = m

  below_kept : (v w : Value) → StepKept s (chooses_below s v w held missed)
  below_kept (Int y) (Int z) = chooses_kept (int_lt y z)
  below_kept v w = tt

  tests_kept : (equal : Bool) (v w : Value) → StepKept s (chooses_by equal s v w held missed)
  tests_kept true v w = chooses_kept (same_value v w)
  tests_kept false v w = below_kept v w

-- a unit keeps it
pub unit_kept : (p : ProgramText) (s : ThreadState) (left : Left) → IsKept left s.locals (holds_of s) → StepKept s (sync_step p s left)
unit_kept p s Over k = free_when k.opened refl
unit_kept p s (Runs Nothing left) k = unit_kept p s left (record { keeps = k.keeps.2; opened = k.opened })
unit_kept p s (Runs (Plain c r) left) k =
    plain_kept s (Runs r left) (record { keeps = (k.keeps.0.1, k.keeps.1.1, k.keeps.2); opened = k.opened }) p c k.keeps.0.0 k.keeps.1.0.0 k.keeps.1.0.1
unit_kept p s (Runs (Sync x b r) left) k =
    enter_kept p s x b (Runs r left) k.keeps.0.0 k.keeps.1.0 (record { keeps = (k.keeps.0.1, k.keeps.1.1, k.keeps.2); opened = k.opened })
unit_kept p s (Runs (If t b c r) left) k =
    tests_kept s _ _ (record { keeps = (k.keeps.0.0, k.keeps.1.0, (k.keeps.0.2, k.keeps.1.2, k.keeps.2)); opened = k.opened })
    (record { keeps = (k.keeps.0.1, k.keeps.1.1, (k.keeps.0.2, k.keeps.1.2, k.keeps.2)); opened = k.opened }) t.equal (local s t.x) (local s t.y)
unit_kept p s (Runs (While t b r) left) k =
    tests_kept s _ _ (record { keeps = (k.keeps.0.0, k.keeps.1.0, k.keeps); opened = k.opened })
    (record { keeps = (k.keeps.0.1, k.keeps.1.1, k.keeps.2); opened = k.opened }) t.equal (local s t.x) (local s t.y)
unit_kept p s (Exits x left) k =
    let exit = exit_calls p s x (open_in left) k.opened in
    subst (λ (a : Step). StepKept s (then_left left a)) (sym exit.calls) (exit_kept s x exit.object left exit.refers k.keeps k.opened)
unit_kept p s (Pays left) k = record { keeps = k.keeps; opened = k.opened }
