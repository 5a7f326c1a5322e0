-- A part of a call that has made its steps: what comes after it by its answer is due, and when that has made its own, the whole has.
use Rattle.std.proofs.Common.{◌≡◌, ℕ, ◌<◌, Bool, List, length, refl, sym, ap, ◌∙◌, subst}
use Rattle.plain_monitor.specs.declared.entry.Logged.{Logged}
use Rattle.core_world.specs.declared.heap_call.HeapCall.{HeapCall}
use Rattle.core_world.specs.Due.{IsDue}
use Rattle.core_world.specs.Threads.ThreadView.{ThreadView, Local, local_of}
use Rattle.core_world.specs.Trees.StepTree.{StepTree, done, unreachable, ◌>>=◌}
use Rattle.core_world.specs.Words.Shape.{Shape}
use Rattle.core_world.proofs.CallRests.{part_due}
use Rattle.heap_table.specs.Parts.{IsDueOn, HasMadeSteps}
use Rattle.heap_table.specs.Seen.{HeapSeen, PassSeen}
use Rattle.heap_table.proofs.Aside.{AreAside, StartsAlike, aside}
use Rattle.heap_table.proofs.Parts.{in_turn, ends}
use Rattle.heap_table.proofs.Resting.{IsCallOf}
use Rattle.heap_table.proofs.Ruled.{not_due}
use Rattle.lock_runtime.proofs.After.{next_part}

-- the first part of what is due is due
pub first_due : {A B : Type 0} {s : Shape} {start : ℕ} {biasing : Bool} {k : ThreadView} {t : HeapCall} {d : StepTree A} (next : A → StepTree B)
    → IsDue s start biasing k t (d >>= next) → IsDue s start biasing k t d
first_due {s = s} {start = start} {biasing = biasing} {k = k} {t = t} {d = d} next due = part_due s start biasing k t d next due

-- where nothing comes after a part but the answer, the whole has made its steps
pub then_ends : {A B : Type 0} {h : HeapSeen} {p q : PassSeen} {d : StepTree A} {a : A} {out : B} (next : A → StepTree B)
    → next a ≡ done out → HasMadeSteps h d p q a → HasMadeSteps h (d >>= next) p q out
then_ends {B = B} {h = h} {p = p} {q = q} {d = d} {a = a} {out = out} next is made =
    in_turn h p q q d next a out made (subst (λ (x : StepTree B). HasMadeSteps h x q q out) (sym is) (ends h q out made.heap))

-- the part d of a call t made its steps, and answered a; by that the tree goes on
pub record PartMade {A B : Type 0} (h : HeapSeen) (p q : PassSeen) (t : HeapCall) (d : StepTree A) (next : A → StepTree B) (a : A) : Type 0 where
  -- all of this was due
  pub due : IsDueOn h p t (d >>= next)
  pub first : IsCallOf t d
  pub made : HasMadeSteps h d p q a

module _ {A B : Type 0} {h : HeapSeen} {p q : PassSeen} {t : HeapCall} {d : StepTree A} {next : A → StepTree B} {a : A} (part : PartMade h p q t d next a) where
  -- Where the answer is b, and the code goes on with x, which is what the tree says after b: x is due,
  pub next_due : {b : A} {x : StepTree B} → a ≡ b → next b ≡ x → IsDueOn h q t x
  next_due is same = subst (IsDueOn h q t) (ap next is ∙ same) (next_part h p q t d next a part.due part.first part.made)

  -- and when x has made its steps, the whole has
  pub next_made : {b : A} {x : StepTree B} {r : PassSeen} {out : B} → a ≡ b → next b ≡ x → HasMadeSteps h x q r out → HasMadeSteps h (d >>= next) p r out
  next_made {r = r} {out = out} is same made =
      in_turn h p q r d next a out part.made (subst (λ (y : StepTree B). HasMadeSteps h y q r out) (sym (ap next is ∙ same)) made)

  -- where the tree says that this was all
  pub last_made : {b : A} {out : B} → a ≡ b → next b ≡ done out → HasMadeSteps h (d >>= next) p q out
  last_made {out = out} is same = next_made is same (ends h q out part.made.heap)

  -- and it never says that no valid world comes there
  pub never_next : {b : A} → a ≡ b → next b ≡ unreachable → ⊥
  never_next {b = b} is never = not_due h q t (next b) part.made.heap (next_due is refl) never

  -- THE LOG has room after a part that leaves the thread's log and own words
  pub room_after : local_of q.known ≡ local_of p.known → length p.known.log < p.limit → length q.known.log < q.limit
  room_after same room =
      subst (λ m. length q.known.log < m) (sym part.made.limit)
      (subst (λ (l : List Logged). length l < p.limit) (sym (ap (λ (x : Local). x.log) same)) room)

  -- a call would begin after the part as before it
  pub alike_after : AreAside d → StartsAlike p.known q.known
  alike_after all = aside h d p q a all part.made
