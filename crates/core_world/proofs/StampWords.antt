-- The stamp words are what they may be after a step that logs nothing and leaves them.
use Rattle.std.proofs.Common.{◌≡◌, ◌⊎◌, ℕ, List, Option, None, sym, ◌∙◌, inl, inr}
use Rattle.plain_monitor.specs.declared.entry.Logged.{Logged}
use Rattle.core_world.specs.declared.heap_call.Unfinished.{Unfinished}
use Rattle.core_world.specs.Threads.ThreadView.{ThreadView}
use Rattle.core_world.specs.Clauses.Stamps.{IsAboutToLetGo, IsStampOf}
use Rattle.core_world.specs.World.{with_known}
use Rattle.core_world.proofs.KnowledgeParts.{each_with_known}

-- who was about to let go still is, where what it has unfinished goes on
letting_on : (a b : Option Unfinished) (log : List Logged) (o : ℕ) → (a ≡ b) ⊎ (a ≡ None) → IsAboutToLetGo a log o → IsAboutToLetGo b log o
letting_on a b log o (inl e) (inl waits) = inl (sym e ∙ waits)
letting_on a b log o (inl e) (inr exits) = inr (sym e ∙ exits.0, exits.1)
letting_on a b log o (inr none) (inl waits) = absurd (cc (none, waits))
letting_on a b log o (inr none) (inr exits) = absurd (cc (none, exits.0))

-- where each thread that was about to let go of o still is, o's stamp word still may be what it is
pub stamp_stays : (log : ℕ → List Logged) (owner : Option ℕ) (f g : ℕ → Option Unfinished) (o stamp : ℕ)
    → ((u : ℕ) → IsAboutToLetGo (f u) (log u) o → IsAboutToLetGo (g u) (log u) o)
    → IsStampOf log owner f o stamp → IsStampOf log owner g o stamp
stamp_stays log owner f g o stamp on (inl none) = inl none
stamp_stays log owner f g o stamp on (inr (inl let_go)) = inr (inl let_go)
stamp_stays log owner f g o stamp on (inr (inr raised)) =
    inr (inr (record { thread = raised.thread; owns = raised.owns; letting = on raised.thread raised.letting; next = raised.next }))

-- so it is where one thread knows anew, and its unfinished operation goes on or there was none
pub stamp_goes_on : (log : ℕ → List Logged) (owner : Option ℕ) (t : ℕ) (l : ThreadView) (known : ℕ → ThreadView) (o stamp : ℕ)
    → ((known t).unfinished ≡ l.unfinished) ⊎ ((known t).unfinished ≡ None)
    → IsStampOf log owner (λ u. (known u).unfinished) o stamp → IsStampOf log owner (λ u. (with_known t l known u).unfinished) o stamp
stamp_goes_on log owner t l known o stamp goes_on =
    stamp_stays log owner (λ u. (known u).unfinished) (λ u. (with_known t l known u).unfinished) o stamp
    (λ u. each_with_known (λ u k. IsAboutToLetGo (known u).unfinished (log u) o → IsAboutToLetGo k.unfinished (log u) o) t l known u
    (letting_on (known t).unfinished l.unfinished (log t) o goes_on) (λ d h. h))
