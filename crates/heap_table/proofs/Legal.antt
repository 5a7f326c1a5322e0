-- At the end the logs are legal and their stamps exact, and nobody runs or asks.
use Rattle.std.proofs.Common.{◌≡◌, ◌⊎◌, ⊎_elim, inl, inr, ℕ, zero, suc, ◌+◌, ◌<◌, ◌==◌, arith, Bool, true}
use Rattle.std.proofs.Common.{false, List, [], ◌∷◌, length, map, Some, refl, sym, ap, ◌∙◌, subst}
use Rattle.std.specs.Prelude.{slice_get, slice_index, slice_index_or, All, Any}
use Rattle.plain_monitor.specs.Monitor.{is_thread}
use Rattle.plain_monitor.specs.Objects.{PlainObject}
use Rattle.core_world.specs.declared.word_id.WordId.TheVariants.{Safepoint}
use Rattle.core_world.specs.Words.Forms.{runs_in, asks_in}
use borrow.Author.Tests.{eqb-true, eqb-false}
use Rattle.plain_monitor.specs.declared.entry.Logged.{Logged}
use Rattle.plain_monitor.specs.History.{LegalObjects}
use Rattle.plain_history.specs.ExactStamps.{StampsAreExact}
use Rattle.core_world.specs.Threads.ThreadView.{ThreadView}
use Rattle.core_world.specs.Words.Shape.{Shape}
use Rattle.core_world.specs.Valid.{IsRevoking, SafepointFits, Valid}
use Rattle.core_world.specs.World.{World, logs, logs_from}
use Rattle.core_world.proofs.bias.LookWhileRevoking.{without_clause}
use Rattle.core_law.specs.WholeLaw.{LawsHold}
use Rattle.core_law.specs.HeapLaw.{HeapLaw}
use Rattle.core_law.specs.Logic.{Heap}
use Rattle.heap_table.specs.Seen.{PassSeen, LastWorld, InOrder, knowns, logs_of}

-- while a bias is revoked the logs are those before
revocation_log : (w : World) (objects : List PlainObject) (s : IsRevoking w objects) (t : ℕ) → (w.known t).log ≡ (s.before.known t).log
revocation_log w objects s t = cases (t == s.requester) refl
  where
    cases : (b : Bool) → (t == s.requester) ≡ b → (w.known t).log ≡ (s.before.known t).log
    cases true e =
        let is : t ≡ s.requester = eqb-true t s.requester e in
        ap (λ (u : ℕ). (w.known u).log) is ∙ ap (λ (k : ThreadView). k.log) s.knows ∙ ap (λ (u : ℕ). (s.before.known u).log) (sym is)
    cases false e = ap (λ (k : ThreadView). k.log) (s.others t (eqb-false t s.requester e))

same_logs : (f g : ℕ → ThreadView) → ((t : ℕ) → (f t).log ≡ (g t).log) → (t n : ℕ) → logs_from t n f ≡ logs_from t n g
same_logs f g e t zero = refl
same_logs f g e t (suc n) = λ i. e t i ∷ same_logs f g e (t + 1) n i

legal_of : (w : World) (v : Valid w) → LegalObjects w.shape.objects (logs w)
legal_of w v = elim v.is [
  | inl f ↦ f.legal
  | inr s ↦
      let logs_are : logs_from 0 w.shape.threads w.known ≡ logs_from 0 s.before.shape.threads s.before.known = same_logs w.known s.before.known
      (revocation_log w v.objects s) 0 w.shape.threads ∙ ap (λ (x : Shape). logs_from 0 x.threads s.before.known) s.shape in
      subst (λ (x : List (ℕ × ℕ) × List (List Logged)). LegalObjects x.0 x.1) (λ i. ((sym s.shape i).objects, sym logs_are i)) s.fits.legal
]

collect : (f : ℕ → ThreadView) (t : ℕ) (ks : List ThreadView) → InOrder t ks
    → ((i : ℕ) (k : ThreadView) → slice_get ks i ≡ Some k → f k.thread ≡ k) → map (λ (k : ThreadView). k.log) ks ≡ logs_from t (length ks) f
collect f t [] order each = refl
collect f t (k ∷ ks) order each =
    let here : k.log ≡ (f t).log = sym (ap (λ (x : ThreadView). x.log) (each 0 k refl)) ∙ ap (λ (u : ℕ). (f u).log) order.0 in
    λ i. here i ∷ collect f (t + 1) ks order.1 (λ j x e. each (suc j) x e) i

last_logs : (b : Heap) (words : List ℕ) (ks : List ThreadView) (last : LastWorld b words ks)
    → InOrder 0 ks → length ks ≡ b.shape.threads → map (λ (k : ThreadView). k.log) ks ≡ logs last.world
last_logs b words ks last order all =
    collect last.world.known 0 ks order last.knows ∙ ap (λ (n : ℕ). logs_from 0 n last.world.known) (all ∙ ap (λ (h : Heap). h.shape.threads) (sym last.is_of))

legal_at_last : (b : Heap) (words : List ℕ) (ks : List ThreadView) → LastWorld b words ks → InOrder 0 ks
    → length ks ≡ b.shape.threads → LegalObjects b.shape.objects (map (λ (k : ThreadView). k.log) ks)
legal_at_last b words ks last order all =
    let w : World = last.world in
    let same = last_logs b words ks last order all in
    subst (λ (x : List (ℕ × ℕ) × List (List Logged)). LegalObjects x.0 x.1)
    (λ i. ((last.is_of i).shape.objects, sym same i)) (legal_of w (without_clause LawsHold w last.sound.valid))

pub exact_at_last : (b : Heap) (words : List ℕ) (ks : List ThreadView) → HeapLaw b → LastWorld b words ks
    → InOrder 0 ks → length ks ≡ b.shape.threads → StampsAreExact (map (λ (k : ThreadView). k.log) ks)
exact_at_last b words ks law last order all =
    subst StampsAreExact (sym (last_logs b words ks last order all)) (law.exact last.world last.comes)

-- in a valid world the safepoint word is what the threads know of themselves, whether or not a bias is being revoked
safe_fits : (w : World) (v : Valid w) → SafepointFits w v.objects
safe_fits w v = elim v.is [ inl f ↦ f.safe | inr s ↦ s.safe ]

get_known : (ps : List PassSeen) (i : ℕ) (p : PassSeen) → i < length ps → slice_index_or ps i p ≡ p → slice_get (knowns ps) i ≡ Some p.known
get_known [] i p h e = absurd (omega (arith, h))
get_known (q ∷ ps) zero p h e = ap (λ (z : PassSeen). Some z.known) e
get_known (q ∷ ps) (suc i) p h e = get_known ps i p (omega (arith, h)) e

-- what holds of what each pass knows holds of what each thread knows
each_knows : (P : ThreadView → Type 0) (f : ℕ → ThreadView) (t : ℕ) (ps : List PassSeen) → InOrder t (knowns ps)
    → ((i : ℕ) (k : ThreadView) → slice_get (knowns ps) i ≡ Some k → f k.thread ≡ k) → All (λ p. P p.known) ps → (i : ℕ) → i < length ps → P (f (t + i))
each_knows P f t [] order at all i h = absurd (omega (arith, h))
each_knows P f t (p ∷ ps) order at all zero h =
    let e : t + 0 ≡ t = omega arith in
    subst P (sym (at 0 p.known refl) ∙ ap f (order.0 ∙ sym e)) (all 0 p h)
each_knows P f t (p ∷ ps) order at all (suc i) h =
    let e : t + 1 + i ≡ t + suc i = omega arith in
    subst (λ u. P (f u)) e (each_knows P f (t + 1) ps order.1 (λ j k g. at (suc j) k g) (λ j d g. all (suc j) d (omega (arith, g))) i (omega (arith, h)))

logs_same : (ps : List PassSeen) → map (λ (k : ThreadView). k.log) (knowns ps) ≡ logs_of ps
logs_same [] = refl
logs_same (p ∷ ps) = ap (λ (l : List (List Logged)). p.known.log ∷ l) (logs_same ps)

pub knowns_long : (ps : List PassSeen) → length (knowns ps) ≡ length ps
knowns_long [] = refl
knowns_long (p ∷ ps) = let h = knowns_long ps in omega (arith, h)

module _ (b : Heap) (words : List ℕ) (ps : List PassSeen) (last : LastWorld b words (knowns ps))
    (order : InOrder 0 (knowns ps)) (all : length ps ≡ b.shape.threads) where
  pub here : (P : ThreadView → Type 0) → All (λ (p : PassSeen). P p.known) ps → (t : ℕ) → t < b.shape.threads → P (last.world.known t)
  here P each t h =
      let e : 0 + t ≡ t = omega arith in
      subst (λ u. P (last.world.known u)) e (each_knows P last.world.known 0 ps order last.knows each t (omega (arith, h, all)))

  pub asks : (t : ℕ) → t < b.shape.threads → All (λ (p : PassSeen). p.known.requesting ≡ false) ps ⊎ Any (λ (p : PassSeen). p.known.halted ≡ true) ps
      → asks_in (last.world.words Safepoint) t ≡ false
  asks t h quiet =
      let safe = safe_fits last.world (without_clause LawsHold last.world last.sound.valid) in
      ⊎_elim
      (λ (each : All (λ (p : PassSeen). p.known.requesting ≡ false) ps). safe.requester t ∙ here (λ k. k.requesting ≡ false) each t h)
      (λ (some : Any (λ (p : PassSeen). p.known.halted ≡ true) ps).
      let p = some.1 in
      let knew = last.knows some.0 p.known (get_known ps some.0 p some.2 some.3) in
      let halt = safe.stopped p.known.thread (ap (λ (k : ThreadView). k.halted) knew ∙ some.4) in
      ap (λ r. is_thread r t) (safe.still halt).0)
      quiet

  pub still_at_last : All (λ (p : PassSeen). p.known.running ≡ false) ps
      → All (λ (p : PassSeen). p.known.requesting ≡ false) ps ⊎ Any (λ (p : PassSeen). p.known.halted ≡ true) ps
      → (t : ℕ) → t < b.shape.threads → (runs_in (slice_index words 0) t ≡ false) × (asks_in (slice_index words 0) t ≡ false)
  still_at_last stopped quiet t h =
      let safe = safe_fits last.world (without_clause LawsHold last.world last.sound.valid) in
      let word : slice_index words 0 ≡ last.world.words Safepoint = last.words_are Safepoint tt in
      (ap (λ n. runs_in n t) word ∙ safe.bits t ∙ here (λ k. k.running ≡ false) stopped t h, ap (λ n. asks_in n t) word ∙ asks t h quiet)

  pub logs_of_last : logs last.world ≡ logs_of ps
  logs_of_last = sym (last_logs b words (knowns ps) last order (knowns_long ps ∙ all)) ∙ logs_same ps

  -- the logs of the passes, in the order of their threads, are legal
  pub logs_legal_at_last : LegalObjects b.shape.objects (logs_of ps)
  logs_legal_at_last = subst (λ (l : List (List Logged)). LegalObjects b.shape.objects l)
      (logs_same ps) (legal_at_last b words (knowns ps) last order (knowns_long ps ∙ all))

  -- and their stamps are exact
  pub stamps_exact_at_last : HeapLaw b → StampsAreExact (logs_of ps)
  stamps_exact_at_last law = subst StampsAreExact (logs_same ps) (exact_at_last b words (knowns ps) law last order (knowns_long ps ∙ all))
