-- A clause stays where its parts stay.
use Rattle.std.proofs.Common.{◌≡◌, ℕ, Bool, List, subst}
use Rattle.core_world.specs.declared.word_id.WordId.{WordId}
use Rattle.core_world.specs.Words.Shape.{Shape}
use Rattle.core_world.specs.Threads.ThreadView.{ThreadView}
use Rattle.core_world.specs.World.{World}
use Rattle.core_world.specs.Clauses.SeenWords.{SeenStays}

-- functions are the same where they are the same at each number
pub same : {A : Type 0} {f g : ℕ → A} → ((n : ℕ) → f n ≡ g n) → f ≡ g
same e = λ i. λ n. e n i

pub same_twice : {A : Type 0} {f g : ℕ → ℕ → A} → ((m n : ℕ) → f m n ≡ g m n) → f ≡ g
same_twice e = λ i. λ m. λ n. e m n i

pub frame1 : {A0 : Type 0} (F : A0 → Type 0) {x0 y0 : A0} → x0 ≡ y0 → F x0 → F y0
frame1 F p0 h = subst F p0 h

pub frame2 : {A0 A1 : Type 0} (F : A0 → A1 → Type 0) {x0 y0 : A0} {x1 y1 : A1} → x0 ≡ y0 → x1 ≡ y1 → F x0 x1 → F y0 y1
frame2 {A0 = A0} {A1 = A1} F p0 p1 h = subst (λ (z : A0 × A1). F z.0 z.1) (λ i. (p0 i, p1 i)) h

pub frame3 : {A0 A1 A2 : Type 0} (F : A0 → A1 → A2 → Type 0) {x0 y0 : A0} {x1 y1 : A1} {x2 y2 : A2} → x0 ≡ y0 → x1 ≡ y1 → x2 ≡ y2 → F x0 x1 x2 → F y0 y1 y2
frame3 {A0 = A0} {A1 = A1} {A2 = A2} F p0 p1 p2 h = subst (λ (z : A0 × A1 × A2). F z.0 z.1 z.2) (λ i. (p0 i, p1 i, p2 i)) h

pub frame4 : {A0 A1 A2 A3 : Type 0} (F : A0 → A1 → A2 → A3 → Type 0) {x0 y0 : A0} {x1 y1 : A1} {x2 y2 : A2} {x3 y3 : A3}
    → x0 ≡ y0 → x1 ≡ y1 → x2 ≡ y2 → x3 ≡ y3 → F x0 x1 x2 x3 → F y0 y1 y2 y3
frame4 {A0 = A0} {A1 = A1} {A2 = A2} {A3 = A3} F p0 p1 p2 p3 h = subst (λ (z : A0 × A1 × A2 × A3). F z.0 z.1 z.2 z.3) (λ i. (p0 i, p1 i, p2 i, p3 i)) h

pub frame5 : {A0 A1 A2 A3 A4 : Type 0} (F : A0 → A1 → A2 → A3 → A4 → Type 0) {x0 y0 : A0} {x1 y1 : A1} {x2 y2 : A2} {x3 y3 : A3} {x4 y4 : A4}
    → x0 ≡ y0 → x1 ≡ y1 → x2 ≡ y2 → x3 ≡ y3 → x4 ≡ y4 → F x0 x1 x2 x3 x4 → F y0 y1 y2 y3 y4
frame5 {A0 = A0} {A1 = A1} {A2 = A2} {A3 = A3} {A4 = A4} F p0 p1 p2 p3 p4 h =
    subst (λ (z : A0 × A1 × A2 × A3 × A4). F z.0 z.1 z.2 z.3 z.4) (λ i. (p0 i, p1 i, p2 i, p3 i, p4 i)) h

pub frame6 : {A0 A1 A2 A3 A4 A5 : Type 0} (F : A0 → A1 → A2 → A3 → A4 → A5 → Type 0) {x0 y0 : A0} {x1 y1 : A1} {x2 y2 : A2} {x3 y3 : A3}
    {x4 y4 : A4} {x5 y5 : A5} → x0 ≡ y0 → x1 ≡ y1 → x2 ≡ y2 → x3 ≡ y3 → x4 ≡ y4 → x5 ≡ y5 → F x0 x1 x2 x3 x4 x5 → F y0 y1 y2 y3 y4 y5
frame6 {A0 = A0} {A1 = A1} {A2 = A2} {A3 = A3} {A4 = A4} {A5 = A5} F p0 p1 p2 p3 p4 p5 h =
    subst (λ (z : A0 × A1 × A2 × A3 × A4 × A5). F z.0 z.1 z.2 z.3 z.4 z.5) (λ i. (p0 i, p1 i, p2 i, p3 i, p4 i, p5 i)) h

pub frame7 : {A0 A1 A2 A3 A4 A5 A6 : Type 0} (F : A0 → A1 → A2 → A3 → A4 → A5 → A6 → Type 0) {x0 y0 : A0}
    {x1 y1 : A1} {x2 y2 : A2} {x3 y3 : A3} {x4 y4 : A4} {x5 y5 : A5} {x6 y6 : A6} → x0 ≡ y0 → x1 ≡ y1
    → x2 ≡ y2 → x3 ≡ y3 → x4 ≡ y4 → x5 ≡ y5 → x6 ≡ y6 → F x0 x1 x2 x3 x4 x5 x6 → F y0 y1 y2 y3 y4 y5 y6
frame7 {A0 = A0} {A1 = A1} {A2 = A2} {A3 = A3} {A4 = A4} {A5 = A5} {A6 = A6} F p0 p1 p2 p3 p4 p5 p6 h =
    subst (λ (z : A0 × A1 × A2 × A3 × A4 × A5 × A6). F z.0 z.1 z.2 z.3 z.4 z.5 z.6) (λ i. (p0 i, p1 i, p2 i, p3 i, p4 i, p5 i, p6 i)) h

pub frame8 : {A0 A1 A2 A3 A4 A5 A6 A7 : Type 0} (F : A0 → A1 → A2 → A3 → A4 → A5 → A6 → A7 → Type 0) {x0 y0 : A0}
    {x1 y1 : A1} {x2 y2 : A2} {x3 y3 : A3} {x4 y4 : A4} {x5 y5 : A5} {x6 y6 : A6} {x7 y7 : A7} → x0 ≡ y0 → x1 ≡ y1
    → x2 ≡ y2 → x3 ≡ y3 → x4 ≡ y4 → x5 ≡ y5 → x6 ≡ y6 → x7 ≡ y7 → F x0 x1 x2 x3 x4 x5 x6 x7 → F y0 y1 y2 y3 y4 y5 y6 y7
frame8 {A0 = A0} {A1 = A1} {A2 = A2} {A3 = A3} {A4 = A4} {A5 = A5} {A6 = A6} {A7 = A7} F p0 p1 p2 p3 p4 p5 p6 p7 h =
    subst (λ (z : A0 × A1 × A2 × A3 × A4 × A5 × A6 × A7). F z.0 z.1 z.2 z.3 z.4 z.5 z.6 z.7) (λ i. (p0 i, p1 i, p2 i, p3 i, p4 i, p5 i, p6 i, p7 i)) h

pub frame9 : {A0 A1 A2 A3 A4 A5 A6 A7 A8 : Type 0} (F : A0 → A1 → A2 → A3 → A4 → A5 → A6 → A7 → A8 → Type 0) {x0 y0 : A0}
    {x1 y1 : A1} {x2 y2 : A2} {x3 y3 : A3} {x4 y4 : A4} {x5 y5 : A5} {x6 y6 : A6} {x7 y7 : A7} {x8 y8 : A8} → x0 ≡ y0 → x1 ≡ y1
    → x2 ≡ y2 → x3 ≡ y3 → x4 ≡ y4 → x5 ≡ y5 → x6 ≡ y6 → x7 ≡ y7 → x8 ≡ y8 → F x0 x1 x2 x3 x4 x5 x6 x7 x8 → F y0 y1 y2 y3 y4 y5 y6 y7 y8
frame9 {A0 = A0} {A1 = A1} {A2 = A2} {A3 = A3} {A4 = A4} {A5 = A5} {A6 = A6} {A7 = A7} {A8 = A8} F p0 p1 p2 p3 p4 p5 p6 p7 p8 h =
    subst (λ (z : A0 × A1 × A2 × A3 × A4 × A5 × A6 × A7 × A8). F z.0 z.1 z.2 z.3 z.4 z.5 z.6 z.7 z.8)
    (λ i. (p0 i, p1 i, p2 i, p3 i, p4 i, p5 i, p6 i, p7 i, p8 i)) h

pub frame10 : {A0 A1 A2 A3 A4 A5 A6 A7 A8 A9 : Type 0} (F : A0 → A1 → A2 → A3 → A4 → A5 → A6 → A7 → A8 → A9 → Type 0) {x0 y0 : A0} {x1 y1 : A1}
    {x2 y2 : A2} {x3 y3 : A3} {x4 y4 : A4} {x5 y5 : A5} {x6 y6 : A6} {x7 y7 : A7} {x8 y8 : A8} {x9 y9 : A9} → x0 ≡ y0 → x1 ≡ y1 → x2 ≡ y2
    → x3 ≡ y3 → x4 ≡ y4 → x5 ≡ y5 → x6 ≡ y6 → x7 ≡ y7 → x8 ≡ y8 → x9 ≡ y9 → F x0 x1 x2 x3 x4 x5 x6 x7 x8 x9 → F y0 y1 y2 y3 y4 y5 y6 y7 y8 y9
frame10 {A0 = A0} {A1 = A1} {A2 = A2} {A3 = A3} {A4 = A4} {A5 = A5} {A6 = A6} {A7 = A7} {A8 = A8} {A9 = A9} F p0 p1 p2 p3 p4 p5 p6 p7 p8 p9 h =
    subst (λ (z : A0 × A1 × A2 × A3 × A4 × A5 × A6 × A7 × A8 × A9). F z.0 z.1 z.2 z.3 z.4 z.5 z.6 z.7 z.8 z.9)
    (λ i. (p0 i, p1 i, p2 i, p3 i, p4 i, p5 i, p6 i, p7 i, p8 i, p9 i)) h

-- what was seen stays in a world of the same shape, words and knowledge, with the same plain owners and waiters
pub seen_stays : (w next : World) (owner next_owner : ℕ → ℕ → Bool) (waits next_waits : ℕ → List (ℕ × ℕ))
    → w.shape ≡ next.shape → ((n : WordId) → w.words n ≡ next.words n)
    → ((t : ℕ) → w.known t ≡ next.known t) → ((o t : ℕ) → owner o t ≡ next_owner o t)
    → ((o : ℕ) → waits o ≡ next_waits o) → SeenStays w owner waits → SeenStays next next_owner next_waits
seen_stays w next owner next_owner waits next_waits s e k o q h =
    -- the start and the biasing are read by none of the facts, so they may differ
    let of : Shape → (WordId → ℕ) → (ℕ → ThreadView) → World = λ s words known. record w { shape = s; words = words; known = known } in
    let words : w.words ≡ next.words = λ i. λ n. e n i in
    let seen = frame5 (λ s words known plain waiters. SeenStays (of s words known) plain waiters) s words (same k) (same_twice o) (same q) h in
    record {
      stays = seen.stays;
      unbiased = seen.unbiased;
      classed = seen.classed;
      saw_classed = seen.saw_classed;
      unwaiting = seen.unwaiting;
      unwaited = seen.unwaited;
      stands = seen.stands;
      alone = seen.alone;
      monitors = seen.monitors;
    }
