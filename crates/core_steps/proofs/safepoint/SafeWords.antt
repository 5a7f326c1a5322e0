-- What the safepoint word says of a thread after the thread's own steps on it.
use Rattle.std.proofs.Common.{◌≡◌, ℕ, ◌-◌, ◌^◌, ◌<◌, ◌==◌, true, false, Some, None, refl, sym, ap, ◌∙◌, arith, eq-eqb}
use Rattle.std.proofs.lemmas.Nat.{pow_below}
use Rattle.std.proofs.lemmas.Nat.Bits.{bit_at-pow_same}
use Rattle.std.specs.Prelude.{bit_and}
use Rattle.mark_word.specs.Safe.{read_safe}
use Rattle.mark_word.specs.declared.safe.SafeForm.{SafeForm}
use Rattle.mark_word.proofs.ReadingSafepoints.{read_safe-spells, read_safe-safe_of}
use Rattle.plain_monitor.specs.Monitor.{is_thread}
use Rattle.core_world.specs.declared.word_id.WordId.TheVariants as id
use Rattle.core_world.specs.Words.Forms.{runs_form, requester_form, requester_in, asks_in, runs_in}
use Rattle.core_world.specs.Threads.ThreadView.{ThreadView}
use Rattle.core_world.specs.Trees.SafepointSteps.{all_but, running_too, requested_by, reached_word, released_word, halted_word}
use Rattle.core_world.specs.Valid.{Fits}
use Rattle.core_world.proofs.safepoint.SafeBits.{without, including, masked, without_range, without_mine, including_range}
use Rattle.core_locks.proofs.safepoint.SafeFacts.{safe_form, few_bits, fits_unasked}
use Rattle.core_locks.proofs.safepoint.SafeEnds.{reached_finds}
use Rattle.core_law.specs.Logic.{Heap, SoundWorldWith}
use Rattle.core_law.proofs.Standing.{asks_is, away, fits_here, inside, safe_fits, valid_here}

module _ (heap : Heap) (k : ThreadView) (n : ℕ) (v : SoundWorldWith heap k) (found : v.world.words id.Safepoint ≡ n) where
  bit_is : runs_in n k.thread ≡ k.running
  bit_is = ap (λ m. runs_in m k.thread) (sym found) ∙ (safe_fits heap k n v found).bits k.thread ∙ ap (λ (y : ThreadView). y.running) v.knows

  -- the state that it spells
  form_here : Fits v.world v.objects → (f : SafeForm) × (read_safe n ≡ Some f)
  form_here fits = let s = safe_form v.world v.objects fits in (s.0, ap read_safe (sym found) ∙ s.1)

  few_here : Fits v.world v.objects → k.thread < 32
  few_here fits = few_bits v.world v.objects k.thread fits (inside heap k v)

  -- a stop leaves its request as it was
  pub stopped_asks : k.running ≡ true → asks_in (bit_and n (all_but k.thread)) k.thread ≡ k.requesting
  stopped_asks runs =
      let s = form_here (fits_here heap k v runs) in
      let spells = read_safe-spells n s.0 s.1 in
      let low = few_here (fits_here heap k v runs) in
      let bit : runs_form (Some s.0) k.thread ≡ true = ap (λ z. runs_form z k.thread) (sym s.1) ∙ bit_is ∙ runs in
      ap (λ m. asks_in (bit_and m (all_but k.thread)) k.thread) spells.1
      ∙ ap (λ m. asks_in m k.thread) (masked s.0 k.thread spells.0 low bit)
      ∙ ap (λ z. is_thread (requester_form z) k.thread) (read_safe-safe_of (without s.0 k.thread) (without_range s.0 k.thread spells.0 low))
      ∙ ap (λ z. is_thread (requester_form z) k.thread) (sym s.1)
      ∙ asks_is heap k n v found

  -- and the thread doesn't run after it
  pub stopped_runs : k.running ≡ true → runs_in (bit_and n (all_but k.thread)) k.thread ≡ false
  stopped_runs runs =
      let s = form_here (fits_here heap k v runs) in
      let spells = read_safe-spells n s.0 s.1 in
      let low = few_here (fits_here heap k v runs) in
      let bit : runs_form (Some s.0) k.thread ≡ true = ap (λ z. runs_form z k.thread) (sym s.1) ∙ bit_is ∙ runs in
      ap (λ m. runs_in (bit_and m (all_but k.thread)) k.thread) spells.1
      ∙ ap (λ m. runs_in m k.thread) (masked s.0 k.thread spells.0 low bit)
      ∙ ap (λ z. runs_form z k.thread) (read_safe-safe_of (without s.0 k.thread) (without_range s.0 k.thread spells.0 low))
      ∙ without_mine s.0 k.thread spells.0 low bit

  -- a resume in a word with no requester leaves it without one
  pub resumed_asks : k.running ≡ false → requester_in n ≡ None → asks_in (running_too (read_safe n) k.thread) k.thread ≡ false
  resumed_asks stopped none =
      let fits = fits_unasked v.world v.objects (ap requester_in found ∙ none) (valid_here heap k v) in
      let s = form_here fits in
      let spells = read_safe-spells n s.0 s.1 in
      let low = few_here fits in
      let bit : runs_form (Some s.0) k.thread ≡ false = ap (λ z. runs_form z k.thread) (sym s.1) ∙ bit_is ∙ stopped in
      ap (λ z. asks_in (running_too z k.thread) k.thread) s.1
      ∙ ap (λ z. is_thread (requester_form z) k.thread) (read_safe-safe_of (including s.0 k.thread) (including_range s.0 k.thread spells.0 low bit))
      ∙ ap (λ z. is_thread (requester_form z) k.thread) (sym s.1)
      ∙ ap (λ z. is_thread z k.thread) none

  -- after its request the thread asks, and doesn't run
  module _ (runs : k.running ≡ true) where
    requested_reads : (f : SafeForm) → read_safe n ≡ Some f
        → read_safe (requested_by (read_safe n) k.thread) ≡ Some (record f { running = f.running - 2 ^ k.thread; requester = Some k.thread })
    requested_reads f reads =
        let spells = read_safe-spells n f reads in
        let low = few_here (fits_here heap k v runs) in
        ap (λ z. read_safe (requested_by z k.thread)) reads
        ∙ read_safe-safe_of (record f { running = f.running - 2 ^ k.thread; requester = Some k.thread }) ((without_range f k.thread spells.0 low).0, low)

    pub requested_asks : asks_in (requested_by (read_safe n) k.thread) k.thread ≡ true
    requested_asks = let s = form_here (fits_here heap k v runs) in
        ap (λ z. is_thread (requester_form z) k.thread) (requested_reads s.0 s.1) ∙ eq-eqb k.thread k.thread refl

    pub requested_runs : runs_in (requested_by (read_safe n) k.thread) k.thread ≡ false
    requested_runs =
        let s = form_here (fits_here heap k v runs) in
        let spells = read_safe-spells n s.0 s.1 in
        let bit : runs_form (Some s.0) k.thread ≡ true = ap (λ z. runs_form z k.thread) (sym s.1) ∙ bit_is ∙ runs in
        ap (λ z. runs_form z k.thread) (requested_reads s.0 s.1) ∙ without_mine s.0 k.thread spells.0 (few_here (fits_here heap k v runs)) bit

  -- AT ITS REACHED SAFEPOINT it finds the word of that, and after its release or a halt it doesn't ask
  pub reached_there : k.reached ≡ true → n ≡ reached_word k.thread
  reached_there reached = sym found ∙ reached_finds v.world v.objects k.thread (away heap k v (λ s y. y.reached ≡ true) reached) (valid_here heap k v)

pub released_asks : (t : ℕ) → t < 32 → asks_in (released_word t) t ≡ false
released_asks t low = ap (λ z. is_thread (requester_form z) t)
    (read_safe-safe_of (record { running = 2 ^ t; requester = None; halted = false }) (pow_below t 32 low, tt))

pub released_runs : (t : ℕ) → t < 32 → runs_in (released_word t) t ≡ true
released_runs t low =
    ap (λ z. runs_form z t) (read_safe-safe_of (record { running = 2 ^ t; requester = None; halted = false }) (pow_below t 32 low, tt))
    ∙ ap (λ n. n == 1) (bit_at-pow_same t)

pub halted_asks : (t : ℕ) → asks_in halted_word t ≡ false
halted_asks t = ap (λ z. is_thread (requester_form z) t) (read_safe-safe_of (record { running = 0; requester = None; halted = true }) (omega arith, tt))
