-- What the steps of an identity hash say.
use Rattle.std.proofs.Common.{◌≡◌, ◌≢◌, ℕ, ◌+◌, ◌==◌, cond, Bool, true, false, List, [], ◌∷◌, ◌++◌, Option, Some}
use Rattle.std.proofs.Common.{None, refl, ap, ◌∙◌, subst, sym, inl, inr, true≢false, eq-eqb, eqb-true, append-nil}
use Rattle.mark_word.specs.declared.mark.MarkForm.{MarkForm}
use Rattle.mark_word.specs.declared.mark.MarkForm.TheVariants.{Inflating, Neutral, Anonymous, Biased, Locked, Inflated, Marked}
use Rattle.mark_word.specs.Mark.{mark_of, read_mark}
use Rattle.plain_monitor.specs.declared.entry.Entry.{Entry}
use Rattle.plain_monitor.specs.declared.entry.Entry.TheVariants as entry
use Rattle.core_world.specs.declared.act.Act.TheVariants.{CompareExchange}
use Rattle.core_world.specs.declared.word_id.WordId.{WordId}
use Rattle.core_world.specs.declared.word_id.WordId.TheVariants.{Mark, Displaced, Header}
use Rattle.core_world.specs.declared.answer.Progress.{Progress}
use Rattle.core_world.specs.declared.answer.Progress.TheVariants.{Done, Pending}
use Rattle.core_world.specs.declared.answer.PendingCause.{PendingCause}
use Rattle.core_world.specs.Words.Forms.{hash_in, hash_form}
use Rattle.core_world.specs.Words.Shape.{Shape}
use Rattle.core_world.specs.Threads.ThreadView.{Start, StepMade}
use Rattle.core_world.specs.Trees.Plans.{CallContext}
use Rattle.core_world.specs.RevocationRules.{first_place}
use Rattle.core_world.specs.Trees.StepTree.{◌>>=◌}
use Rattle.core_world.specs.Trees.MonitorSteps.{inflate_steps}
use Rattle.core_world.specs.Trees.HashSteps.{NextDraw, find_hash_plan, draw_steps, hash_monitor_steps, hash_displaced_steps}
use Rattle.core_world.specs.Trees.HashSteps.{hash_inflated, hash_inflate_steps, hash_unless, hash_mark_steps, hash_header_steps}
use Rattle.core_calls.specs.Paths.{made, Always, entries_of, Leaves}
use Rattle.core_calls.specs.CallsSay.{IsHeader, IsDraw}
use Rattle.core_calls.proofs.Paths.{Saw, saw_load, always_then, either_way, Silent, Still, still, now_logged, missed, missed_last}
use Rattle.core_calls.proofs.Reasons.{Reasons}
use Rattle.core_calls.proofs.enter_exit.LocksSay.{zero_loaded}
use Rattle.core_calls.proofs.monitor.MonitorsSay.{InflateProgress, inflate_says}

-- a load that finds no hash is silent, and one that finds a hash logs it
pub none_found : (e : CallContext) (at : WordId) (o n : ℕ) (ms : List StepMade)
    → (hash_in n == 0) ≡ true → Still ms → Silent e (made (find_hash_plan e at o) n ∷ ms)
none_found e at o n ms none h =
    record {
      entries = ap (λ (b : Bool). entries_of ms ++ cond b [] (entry.Hash o (hash_in n) None ∷ [])) none ∙ append-nil (entries_of ms) ∙ h.are;
      unfinished = λ before. ap (λ (b : Bool). cond b e.unfinished None) none;
      checking = λ before. refl;
    }

pub one_found : (e : CallContext) (at : WordId) (o n : ℕ) (ms : List StepMade) → (hash_in n == 0) ≡ false
    → Still ms → Leaves (entry.Hash o (hash_in n) None ∷ []) None e.check (made (find_hash_plan e at o) n ∷ ms)
one_found e at o n ms some h =
    record {
      entries = ap (λ (b : Bool). entries_of ms ++ cond b [] (entry.Hash o (hash_in n) None ∷ [])) some
          ∙ ap (λ (x : List Entry). x ++ entry.Hash o (hash_in n) None ∷ []) h.are;
      unfinished = λ before. ap (λ (b : Bool). cond b e.unfinished None) some;
      checking = λ before. refl;
    }

-- what isn't found to be 0 isn't
not_zero : (n : ℕ) → (n == 0) ≡ false → n ≢ 0
not_zero n some = λ (zero : n ≡ 0). true≢false (sym (eq-eqb n 0 zero) ∙ some)

-- the draw that is a thread's next
abbrev pub next_draw : Start → NextDraw
next_draw k = record { number = k.draws + 1; value = k.draw }

module _ (e : CallContext) (k : Start) (o : ℕ) (For : PendingCause → List StepMade → Type 0) (may : Reasons k.requesting k.local.thread o For) where
  abbrev pub HashProgress : List StepMade → Progress ℕ → Type 0
  HashProgress ms (Done value) = (drawn : Option ℕ) × IsDraw k o value ms drawn × Leaves (entry.Hash o value drawn ∷ []) None e.check ms
  HashProgress ms (Pending why) = Leaves [] e.unfinished e.check ms × For why ms

  draw_says : (at : WordId) → IsHeader k.local.thread o at → (header : ℕ) (ms : List StepMade)
      → Saw at header ms → Silent e ms → Always HashProgress ms (draw_steps e (next_draw k) at o header)
  draw_says at named header ms loaded h = λ n.
      either_way HashProgress _ (n == header) _ _
      (λ hit. (
        Some (k.draws + 1),
        (refl, refl, inl (named, ap (λ (old : ℕ). CompareExchange old (mark_of (Neutral k.draw 0))) (sym (eqb-true n header hit)))),
        now_logged _ None e.check _ n ms hit refl refl refl (still h),
      ))
      (λ miss. (missed _ n ms miss h, may.races header n _ (missed_last _ n ms header _ refl miss loaded)))

  hash_monitor_says : (m : ℕ) (ms : List StepMade) → Still ms → Always HashProgress ms (hash_monitor_steps e (next_draw k) o m)
  hash_monitor_says m ms h = λ header.
      either_way HashProgress _ (hash_in header == 0) _ _
      (λ none. draw_says (Header m) (inr (inr (m, refl))) header _ (saw_load (find_hash_plan e (Header m) o) header ms refl)
      (none_found e (Header m) o header ms none h))
      (λ some. (None, (not_zero _ some, inl (inr (inr (m, refl)), refl, refl)), one_found e (Header m) o header ms some h))

  inflated_says : (ms : List StepMade) (progress : Progress ℕ) → InflateProgress e k.requesting k.local.thread o For may ms progress
      → Always HashProgress ms (hash_inflated e (next_draw k) o progress)
  inflated_says ms (Done m) h = hash_monitor_says m ms (still h)
  inflated_says ms (Pending why) h = h

  hash_inflate_says : (s : Shape) (kept : Option ℕ) (ms : List StepMade) → Still ms → Always HashProgress ms (hash_inflate_steps s e kept (next_draw k) o)
  hash_inflate_says s kept ms h =
      always_then (InflateProgress e k.requesting k.local.thread o For may) HashProgress (inflate_steps s e kept o) (hash_inflated e (next_draw k) o) ms
      (inflate_says e k.requesting k.local.thread o For may s kept ms h) inflated_says

  hash_displaced_says : (s : Shape) (kept : Option ℕ) (ms : List StepMade) → Still ms
      → Always HashProgress ms (hash_displaced_steps e k.local o >>= λ found. hash_unless found s e kept (next_draw k) o)
  hash_displaced_says s kept ms h = λ header. by_hash header (hash_in header == 0) refl
    where
      by_hash : (header : ℕ) (b : Bool) → (hash_in header == 0) ≡ b
          → Always HashProgress (made (find_hash_plan e (Displaced k.local.thread (first_place o k.local.holds)) o) header ∷ ms)
          (hash_unless (cond b None (Some (hash_in header))) s e kept (next_draw k) o)
      by_hash header true none = hash_inflate_says s kept _ (still (none_found e _ o header ms none h))
      by_hash header false some = (None, (not_zero _ some, inl (inr (inl (first_place o k.local.holds, refl)), refl, refl)), one_found e _ o header ms some h)

  hash_at_says : (form : Option MarkForm) (s : Shape) (kept : Option ℕ) (mark : ℕ) (ms : List StepMade) → read_mark mark ≡ form → Still ms
      → Always HashProgress (made (find_hash_plan e (Mark o) o) mark ∷ ms) (hash_mark_steps form s e k.local kept (next_draw k) o mark)
  hash_at_says (Some Inflating) s kept mark ms is h = (
    none_found e (Mark o) o mark ms (ap (λ f. hash_form f == 0) is) h,
    may.inflates _ (zero_loaded (Mark o) (made (find_hash_plan e (Mark o) o) mark ∷ ms) mark is (inl (refl, refl, refl))),
  )
  hash_at_says (Some (Neutral hash age)) s kept mark ms is h =
      either_way HashProgress _ (hash == 0) _ _
      (λ none. draw_says (Mark o) (inl refl) mark _ (saw_load (find_hash_plan e (Mark o) o) mark ms refl)
      (none_found e (Mark o) o mark ms (ap (λ f. hash_form f == 0) is ∙ none) h))
      (λ some. (
        None,
        (not_zero _ some, inl (inl refl, refl, ap hash_form is)),
        subst (λ value. Leaves (entry.Hash o value None ∷ []) None e.check (made (find_hash_plan e (Mark o) o) mark ∷ ms))
            (ap hash_form is) (one_found e (Mark o) o mark ms (ap (λ f. hash_form f == 0) is ∙ some) h),
      ))
  hash_at_says (Some (Locked thread place)) s kept mark ms is h =
      let silent = none_found e (Mark o) o mark ms (ap (λ f. hash_form f == 0) is) h in
      either_way HashProgress _ (thread == k.local.thread) _ _
      (λ own. hash_displaced_says s kept _ (still silent)) (λ other. hash_inflate_says s kept _ (still silent))
  hash_at_says (Some (Inflated monitor)) s kept mark ms is h =
      hash_monitor_says monitor _ (still (none_found e (Mark o) o mark ms (ap (λ f. hash_form f == 0) is) h))
  hash_at_says (Some (Anonymous epoch age)) s kept mark ms is h = tt
  hash_at_says (Some (Biased thread epoch age)) s kept mark ms is h = tt
  hash_at_says (Some Marked) s kept mark ms is h = tt
  hash_at_says None s kept mark ms is h = tt

  pub hash_header_says : (s : Shape) (kept : Option ℕ) (ms : List StepMade) → Still ms
      → Always HashProgress ms (hash_header_steps s e k.local kept (next_draw k) o)
  hash_header_says s kept ms h = λ mark. hash_at_says (read_mark mark) s kept mark ms refl h
