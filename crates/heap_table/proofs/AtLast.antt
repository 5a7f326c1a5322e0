-- What the last state of the table says.
use Rattle.std.proofs.Common.{◌≡◌, ℕ, zero, suc, ◌+◌, ◌<◌, Bool, true, false, refl, drop, List, [], ◌∷◌, ◌++◌, length, take, get_or, Some, sym, ap, ◌∙◌, subst, arith, append-nil}
use Rattle.std.specs.Prelude.{slice_index, slice_get}
use Rattle.std.proofs.lemmas.List.{drop_all, take_more, take_all}
use mathlib.Core.Option.{some, some-injective, some-ne-none}
use lib.ListN.{get_elem?}
use Rattle.atomic_table.specs.Table.{Final, Seen}
use Rattle.plain_monitor.specs.declared.entry.Logged.{Logged}
use Rattle.core_law.specs.HeapLaw.{HeapLaw}
use Rattle.core_law.specs.Logic.{Heap}
use Rattle.core_world.specs.Threads.ThreadView.{ThreadView}
use Rattle.heap_table.specs.Layout.{place_of, word_count}
use Rattle.heap_table.specs.Ruled.{heap_in}
use Rattle.heap_table.specs.inner.Ruled.{Each, Rules, Ruled}
use Rattle.heap_table.specs.declared.setting.Setting.{Setting}
use Rattle.std.specs.List.{All}
use Rattle.heap_table.specs.Seen.{HeapSeen, PassSeen, IsOf, LastWorld, given_of, page_of, pages_of, logs_of}
use Rattle.heap_table.specs.Kept.{Mirrors, IsPageFrom, limit_by}
use Rattle.heap_table.specs.declared.mirror.Mirror.{Mirror}
use Rattle.heap_table.specs.inner.Seen.{AllOf}

at_place : (xs : List ℕ) (i x : ℕ) → get_elem? xs i ≡ some x → (i < length xs) × (get_or xs i 0 ≡ x)
at_place [] i x e = absurd (some-ne-none x (sym e))
at_place (y ∷ ys) zero x e = (omega arith, some-injective _ _ e)
at_place (y ∷ ys) (suc i) x e = let h = at_place ys i x e in (omega (arith, h.0), h.1)

pub copies : (xs copy : List ℕ) (i x : ℕ) → get_elem? xs i ≡ some x → copy ≡ take i xs → copy ++ x ∷ [] ≡ take (i + 1) xs
copies xs copy i x e c = let h = at_place xs i x e in (λ j. c j ++ sym h.1 j ∷ []) ∙ sym (take_more xs i 0 h.0)

each_at : (P : ThreadView → Type 0) (v : List ThreadView) (i : ℕ) (k : ThreadView) → Each P v → slice_get v i ≡ Some k → P k
each_at P [] i k h e = absurd (cc)
each_at P (x ∷ xs) zero k h e = let s : x ≡ k = cc in subst P s h.0
each_at P (x ∷ xs) (suc i) k h e = each_at P xs i k h.1 e

pub final : {S : Type 0} (b : Heap) (id : ℕ) (v : List ThreadView) (ws copy : List ℕ) (xs : List S) (n : ℕ)
    → Final (Seen (Rules {S = S} b) id v) ws xs → n ≡ word_count b.shape → copy ≡ take n ws → LastWorld b copy v
final b id v ws copy xs n ((s, ((w, who, sh, sound, came), at), words, count, slots)) e c =
    let same : copy ≡ s.words = c ∙ ap (take n) (sym words) ∙ take_all n s.words (omega (arith, sh.wide, e)) in
    let mine = sh.knows id v at in
    record {
      world = w;
      is_of = sh.is_of;
      sound = sound;
      comes = came.comes;
      words_are = λ m here. ap (λ (l : List ℕ). slice_index l (place_of b.shape m)) same ∙ sh.words_are m here;
      knows = λ i k there. (each_at (λ (k : ThreadView). (w.known k.thread ≡ k) × (who k.thread ≡ id)) v i k mine.0 there).0;
    }

pub final_as : {S : Type 0} (b : Heap) (key : Setting) (id : ℕ) (v u : List ThreadView) (ws copy : List ℕ) (xs : List S) (n : ℕ)
    → heap_in key ≡ b → v ≡ u → Final (Seen (Ruled {S = S} key) id v) ws xs → n ≡ word_count b.shape → copy ≡ take n ws → LastWorld b copy u
final_as {S} b key id v u ws copy xs n k e f c t =
    let P : Heap × List ThreadView → Type 0 = λ z. Final (Seen (Rules {S = S} z.0) id z.1) ws xs in
    final {S = S} b id u ws copy xs n (subst P (λ j. (k j, e j)) f) c t

-- and the heap has its law
pub law_as : {S : Type 0} (b : Heap) (key : Setting) (id : ℕ) (v : List ThreadView) (ws : List ℕ) (xs : List S)
    → heap_in key ≡ b → Final (Seen (Ruled {S = S} key) id v) ws xs → HeapLaw b
law_as b key id v ws xs k ((s, ((w, who, sh, sound, came), at), words, count, slots)) = subst HeapLaw k came.law

pub all_yielded : {A : Type 0} (xs ys zs : List A) → xs ++ ys ≡ zs → length ys ≡ 0 → xs ≡ zs
all_yielded xs [] zs e n = sym (append-nil xs) ∙ e
all_yielded xs (y ∷ ys) zs e n = absurd (omega arith)

pub all_of : (h : HeapSeen) (ps : List PassSeen) → All (IsOf h) ps → AllOf h.table ps
all_of h [] f = tt
all_of h (p ∷ ps) f = ((f 0 p (omega arith)).table, all_of h ps (λ k d lt. f (suc k) d (omega arith)))

-- the page that a pass keeps is what its log has besides the pages that were handed out
pub page_is : (m : Mirror) (p : PassSeen) → Mirrors m p.known → p.limit ≡ limit_by m.keeps m.given m.room → p.room ≡ m.room → page_of p ≡ m.log.items
page_is m p f limit room = by_kept m.keeps f.log limit
  where
    by_kept : (keeps : Bool) → IsPageFrom keeps m.given p.known.log m.log.items → p.limit ≡ limit_by keeps m.given m.room → page_of p ≡ m.log.items
    by_kept true page limit =
        let given : given_of p ≡ m.given = omega (arith, limit, room) in
        ap (λ n. drop n p.known.log) given ∙ page.entries
    by_kept false page limit =
        let whole = page.whole in
        let few = m.few in
        let none : length m.log.items ≡ 0 = ap length page.entries in
        drop_all (given_of p) p.known.log (omega (arith, limit, room, whole, few, none)) ∙ sym page.entries

-- when it is handed out, so many more entries may be logged
pub limit_grows : (keeps : Bool) (given room n : ℕ) (log page : List Logged) → IsPageFrom keeps given log page → n ≡ length page
    → limit_by keeps (given + n) room ≡ limit_by keeps given room + length page
limit_grows true given room n log page p e = omega (arith, e)
limit_grows false given room n log page p e = let none : length page ≡ 0 = ap length p.entries in omega (arith, none)

-- where no page was handed out, all entries are left
pub all_left : (h : HeapSeen) (ps : List PassSeen) → All (IsOf h) ps → All (λ p. p.limit ≡ h.room) ps → pages_of ps ≡ logs_of ps
all_left h [] of none = refl
all_left h (p ∷ ps) of none =
    let room = (of 0 p (omega arith)).room in
    let limit = none 0 p (omega arith) in
    let nothing : given_of p ≡ 0 = omega (arith, room, limit) in
    let others = all_left h ps (λ k d lt. of (suc k) d (omega arith)) (λ k d lt. none (suc k) d (omega arith)) in
    λ i. drop (nothing i) p.known.log ∷ others i

-- what holds of both of two holds of each
pub both : {X : Type 0} (P : X → Type 0) (p q : X) → P p → P q → All P (p ∷ q ∷ [])
both P p q h k zero d lt = h
both P p q h k (suc zero) d lt = k
both P p q h k (suc (suc i)) d lt = absurd (omega (arith, lt))
