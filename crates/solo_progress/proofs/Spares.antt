-- Steps that spare the safepoint word, and put plain marks alone, leave the mark of an object plain; and so do the steps of a deflation.
use Rattle.std.proofs.Common.{◌≡◌, ◌≢◌, ℕ, ◌==◌, cond, length, Bool, true, false, Option, Some, sym, refl, ap, ◌∙◌, subst, eqb-true, arith}
use Rattle.std.specs.List.{list_all}
use Rattle.mark_word.specs.declared.mark.MarkForm.{MarkForm}
use Rattle.mark_word.specs.declared.mark.MarkForm.TheVariants.{Biased, Inflated}
use Rattle.mark_word.specs.declared.owner.OwnerForm.TheVariants.{Free}
use Rattle.mark_word.specs.Mark.{read_mark}
use Rattle.mark_word.specs.Owner.{owner_of}
use Rattle.mark_word.proofs.ReadingMarks.{read_mark-spells}
use Rattle.core_world.specs.declared.act.Act.{Act}
use Rattle.core_world.specs.declared.act.Act.TheVariants.{Load, Store}
use Rattle.core_world.specs.declared.word_id.WordId.{WordId}
use Rattle.core_world.specs.declared.word_id.WordId.TheVariants.{Safepoint, Mark, Prototype, Revocations, LastBulk, Waiting, Owner, Header, Object}
use Rattle.core_world.specs.declared.stage.Stage.{Stage}
use Rattle.core_world.specs.declared.stage.Stage.TheVariants.{Settled}
use Rattle.core_world.specs.Locks.{is_valid_bias}
use Rattle.core_world.specs.Threads.Stages.{Revocation}
use Rattle.core_world.specs.Words.Acts.{word_after}
use Rattle.core_world.specs.Words.Forms.{epoch_in, monitor_form, monitor_in}
use Rattle.core_world.specs.Words.Names.{class_by, same_name, with_word}
use Rattle.core_world.specs.Words.Shape.{Shape, monitor_count}
use Rattle.core_world.specs.Trees.DeflateSteps.{look_at, give_back_steps, is_untouched, deflate_free}
use Rattle.core_world.specs.Trees.DeflateSteps.{deflate_named, names_monitor, deflate_monitor, deflate_steps}
use Rattle.core_world.specs.Trees.Plans.{CallContext}
use Rattle.core_world.specs.Trees.RevocationSteps.{RevocationOutcome, decided_steps, revoke_at_safepoint_steps}
use Rattle.core_world.specs.Trees.StepTree.{StepTree, done, unreachable, step, each_from}
use Rattle.core_calls.proofs.Stays.{IsPlainMark, IsSparing, Passing, Passes, Whatever}
use Rattle.core_calls.proofs.Spends.{spend_passes, spend_list, spend_step, spend_done}
use Rattle.core_calls.proofs.safepoint.StaysLooks.{decided_spares}
use Rattle.solo_progress.proofs.OneRun.{after, Alone, QuietAt, alone_then, alone_either, alone_class, alone_each, load_leaves}

pub put_some : (b : Bool) (x y : ℕ) → x ≢ 0 → y ≢ 0 → cond b x y ≢ 0
put_some true x y h g = h
put_some false x y h g = g

put_plain : (b : Bool) (x y : ℕ) → IsPlainMark x → IsPlainMark y → IsPlainMark (cond b x y)
put_plain true x y h g = h
put_plain false x y h g = g

-- Quiet at o, where o's mark names no monitor either: so no deflation is after it.
pub record PlainAt (o safe : ℕ) (f : WordId → ℕ) : Type 0 where
  pub mark : IsPlainMark (f (Mark o))
  pub safepoint : f Safepoint ≡ safe

pub plain_quiet : {o safe : ℕ} {f : WordId → ℕ} → PlainAt o safe f → QuietAt o safe f
plain_quiet h = record { mark = h.mark.0; safepoint = h.safepoint }

module _ (o safe : ℕ) where
  plain_after : (at : WordId) (act : Act) (f : WordId → ℕ) → IsSparing at act → PlainAt o safe f → PlainAt o safe (with_word at (word_after act (f at)) f)
  plain_after Safepoint Load f h q = record { mark = q.mark; safepoint = q.safepoint }
  plain_after Safepoint _ f h q = absurd h
  plain_after (Mark i) Load f h q = record { mark = subst IsPlainMark (sym (load_leaves (Mark i) (Mark o) f)) q.mark; safepoint = q.safepoint }
  plain_after (Mark i) (Store word) f h q = record { mark = put_plain (same_name (Mark o) (Mark i)) word (f (Mark o)) h q.mark; safepoint = q.safepoint }
  plain_after (Mark i) _ f h q = absurd h
  plain_after _ act f h q = record { mark = q.mark; safepoint = q.safepoint }

  plain_along : {A : Type 0} (R : A → Type 0) (d : StepTree A) (f : WordId → ℕ) → Passing IsSparing R d → PlainAt o safe f
      → Alone (λ g (x : A). PlainAt o safe g) f d
  plain_along R (done a) f h q = q
  plain_along R unreachable f h q = tt
  plain_along R (step p x) f h q = plain_along R (x (f p.at)) (after p f) (h.1 (f p.at)) (plain_after p.at p.act f h.0 q)

  plain_alone : {A : Type 0} (d : StepTree A) (f : WordId → ℕ) → Passes IsSparing Whatever d → PlainAt o safe f
      → Alone (λ g (x : A). PlainAt o safe g) f d
  plain_alone {A} d f h q = plain_along (Whatever {A = A}) d f h.by q

-- A REVOCATION begins with a valid bias.
bias_plain : (n p : ℕ) → is_valid_bias (read_mark n) p ≡ true → IsPlainMark n
bias_plain n p valid = by_form (read_mark n) refl valid
  where
    by_form : (form : Option MarkForm) → read_mark n ≡ form → is_valid_bias form p ≡ true → IsPlainMark n
    by_form (Some (Biased thread epoch age)) reads h =
        let spells = (read_mark-spells n (Biased thread epoch age) reads).1 in
        (λ z. absurd (omega (arith, z, spells)), λ z. absurd (omega (arith, z, spells)))
    by_form _ reads h = absurd (cc h)

pub revocation_plain : (s : Shape) (t safe : ℕ) (e : CallContext) (b : Revocation) (f : WordId → ℕ) → QuietAt b.object safe f
    → Alone (λ g (x : RevocationOutcome). PlainAt b.object safe g) f (revoke_at_safepoint_steps s t e b)
revocation_plain s t safe e b f q =
    alone_class (λ g (x : RevocationOutcome). PlainAt b.object safe g) e Settled s b.object _ _
    (alone_either (λ g (x : RevocationOutcome). PlainAt b.object safe g) _ (is_valid_bias (read_mark (f (Mark b.object))) (f (Prototype c))) _ _
    (λ valid. plain_alone b.object safe
    (decided_steps s t c e b (epoch_in (f (Prototype c))) (f (Revocations c)) (f (LastBulk c))) _
    (decided_spares e b s t c (epoch_in (f (Prototype c))) (f (Revocations c)) (f (LastBulk c)))
    (record {
      mark = subst IsPlainMark (sym (load_leaves (Mark b.object) (Mark b.object) f)) (bias_plain (f (Mark b.object)) (f (Prototype c)) valid);
      safepoint = q.safepoint;
    }))
    (λ _. tt))
  where
    c : ℕ
    c = class_by s f b.object

-- A DEFLATION changes the marks that name a monitor.
unnamed : (n m : ℕ) → IsPlainMark n → names_monitor (monitor_in n) m ≡ false
unnamed n m plain = by_form (read_mark n) refl
  where
    by_form : (form : Option MarkForm) → read_mark n ≡ form → names_monitor (monitor_form form) m ≡ false
    by_form (Some (Inflated i)) reads =
        let spells = (read_mark-spells n (Inflated i) reads).1 in
        absurd (plain.1 (omega (arith, spells)))
    by_form _ reads = refl

module _ (s : Shape) (o safe : ℕ) (e : CallContext) (stage : Stage) where
  abbrev Left : (WordId → ℕ) → Unit {0} → Type 0
  Left g x = PlainAt o safe g

  give_back_plain : (i m : ℕ) (f : WordId → ℕ) → (o == i) ≡ false → PlainAt o safe f → Alone Left f (give_back_steps s e stage i m)
  give_back_plain i m f other q = record {
    mark = subst IsPlainMark (sym (ap (λ (b : Bool). cond b (f (Header m)) (f (Mark o))) other)) q.mark;
    safepoint = q.safepoint;
  }

  free_plain : (i m : ℕ) (f : WordId → ℕ) → (o == i) ≡ false → PlainAt o safe f → Alone Left f (deflate_free s e stage i m)
  free_plain i m f other q =
      alone_then (λ g words. PlainAt o safe g) Left (each_from 0 s.threads (λ t. look_at e stage (Waiting t))) _ f
      (plain_alone o safe (each_from 0 s.threads (λ t. look_at e stage (Waiting t))) f
      (spend_passes (λ p x. x) (spend_list {Q = λ p. IsSparing p.at p.act} {n = 1} 0 s.threads
      (λ t. spend_step {n = 0} tt (λ w. spend_done (omega arith))))) q)
      (λ g words q. alone_either Left g (list_all (λ w. is_untouched i w) words) _ _ (λ _. give_back_plain i m g other q) (λ _. q))

  named_plain : (i m : ℕ) (f : WordId → ℕ) → (o == i) ≡ false → PlainAt o safe f → Alone Left f (deflate_named s e stage i m)
  named_plain i m f other q =
      let looked = plain_after o safe (Owner m) Load f tt q in
      alone_either Left _ (f (Owner m) == owner_of Free) _ _ (λ _. free_plain i m _ other looked) (λ _. looked)

  monitor_plain : (m : ℕ) (f : WordId → ℕ) → PlainAt o safe f → Alone Left f (deflate_monitor s e stage m)
  monitor_plain m f q =
      let i = f (Object m) in
      let one = plain_after o safe (Object m) Load f tt q in
      let two = plain_after o safe (Mark i) Load _ tt one in
      alone_either Left _ (names_monitor (monitor_in (f (Mark i))) m) _ _ (λ named. named_plain i m _ (other i named) two) (λ _. two)
    where
      other : (i : ℕ) → names_monitor (monitor_in (f (Mark i))) m ≡ true → (o == i) ≡ false
      other i named = by_number (o == i) refl
        where
          by_number : (b : Bool) → (o == i) ≡ b → b ≡ false
          by_number false is = refl
          by_number true is =
              let same = eqb-true o i is in
              let none = unnamed (f (Mark o)) m q.mark in
              let some = ap (λ j. names_monitor (monitor_in (f (Mark j))) m) same ∙ named in
              absurd (cc (none, some))

  pub deflation_plain : (f : WordId → ℕ) → PlainAt o safe f → Alone Left f (deflate_steps s e stage)
  deflation_plain f q =
      alone_either Left f (length s.objects == 0) _ _ (λ _. q)
      (λ _. alone_each (λ g. PlainAt o safe g) 0 (monitor_count s) (λ m. deflate_monitor s e stage m) f q monitor_plain)
