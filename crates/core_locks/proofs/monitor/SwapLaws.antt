-- An exchange keeps the world valid where every clause holds after a hit: where it misses, it is a look.
use Rattle.core_locks.proofs.Prelude.{◌≡◌, ℕ, ◌<◌, Bool, true, false, cond, List, refl, sym, ap, subst, inl, inr, PlainObject}
use Rattle.core_locks.proofs.Prelude.{StepPlan, word_after, hits, ThreadView, World, with_word_and_known, world_after, known_hit}
use Rattle.core_locks.proofs.Prelude.{known_after, known_miss, Fits, IsValid, HasFound, MayLook, miss_valid, SawInflated}
use Rattle.core_locks.proofs.OwnSeen.{hit_world}

pub swap_valid : (w : World) (P : List PlainObject) (t : ℕ) (plan : StepPlan) → t < w.shape.threads → MayLook (w.known t) plan.at
    → (hits plan.act (w.words plan.at) ≡ true → Fits (hit_world w t plan) P) → IsValid w P → IsValid (world_after plan t w) P
swap_valid w P t plan within look hit valid = by_test (hits plan.act (w.words plan.at)) refl
  where
    by_test : (b : Bool) → hits plan.act (w.words plan.at) ≡ b → IsValid (world_after plan t w) P
    by_test true e =
        let so : known_hit w.shape w.start plan (w.words plan.at) (w.known t) ≡ known_after w.shape w.start plan (w.words plan.at) (w.known t) =
        ap (λ (b : Bool). cond b (known_hit w.shape w.start plan (w.words plan.at) (w.known t))
        (known_miss w.shape w.start plan (w.words plan.at) (w.known t))) (sym e) in
        inl (subst (λ k. Fits (with_word_and_known plan.at (word_after plan.act (w.words plan.at)) t k w) P) so (hit e))
    by_test false e = miss_valid w P t plan within (record { missed = e; may = look }) valid

-- a thread that saw a mark that names the monitor has found it
pub found_by_mark : (k : ThreadView) (o m : ℕ) → SawInflated k o m → HasFound k m
found_by_mark k o m saw = inr (o, saw.0, saw.1, saw.2)
