-- What loops that write words, or read them, have done so far.
use Rattle.std.proofs.Common.{◌≡◌, ℕ, suc, ◌+◌, ◌-◌, ◌<◌, ◌≤◌, List, [], ◌∷◌, ◌++◌, length, drop, get_or, sym, ap, ◌∙◌, append_assoc, append-nil, arith, subst}
use Rattle.std.proofs.lemmas.List.{drop_more, drop_all}
use Rattle.machine_words.specs.declared.unread.Unread.{Unread}
use Rattle.machine_words.specs.inner.Reading.{Reads}
use Rattle.machine_words.specs.inner.Telling.{IsLost}
use Rattle.machine_words.proofs.Lost.{lost_by}

-- the words of one item more
pub written_more : {A : Type 0} (F : List A → List ℕ) (xs : List A) (i : ℕ) (x : A) (ws before after total : List ℕ) → i < length xs
    → x ≡ get_or xs i x → F (x ∷ drop (i + 1) xs) ≡ ws ++ F (drop (i + 1) xs) → before ++ F (drop i xs) ≡ total → after ≡ before ++ ws
    → after ++ F (drop (i + 1) xs) ≡ total
written_more F xs i x ws before after total lt at is inv a =
    let rest = drop (i + 1) xs in
    let here : drop i xs ≡ x ∷ rest = drop_more xs i x lt ∙ ap (λ y. y ∷ rest) (sym at) in
    ap (λ z. z ++ F rest) a ∙ append_assoc before ws (F rest) ∙ ap (λ z. before ++ z) (sym is) ∙ ap (λ z. before ++ F z) (sym here) ∙ inv

pub written_all : {A : Type 0} (F : List A → List ℕ) (xs : List A) (i : ℕ) (out total : List ℕ) → length xs ≤ i → F [] ≡ []
    → out ++ F (drop i xs) ≡ total → out ≡ total
written_all F xs i out total le none inv =
    sym (append-nil out) ∙ ap (λ z. out ++ z) (sym (ap F (drop_all i xs le) ∙ none)) ∙ inv

-- one item more is read
reads_more : {A : Type 0} (read : ℕ → List ℕ → List A × List ℕ) (start : List A) (count : ℕ) (words : List ℕ) (done : List A) (left : ℕ)
    (rest : List ℕ) (x : A) (less : ℕ) (beyond : List ℕ) (grown : List A) → grown ≡ done ++ x ∷ [] → left ≡ suc less
    → read (suc less) rest ≡ (x ∷ (read less beyond).0, (read less beyond).1) → Reads read start count words done left rest
    → Reads read start count words grown less beyond
reads_more read start count words done left rest x less beyond grown g e is h =
    record {
      items =
          h.items ∙ ap (λ n. done ++ (read n rest).0) e ∙ ap (λ (r : List _ × List ℕ). done ++ r.0) is
          ∙ sym (append_assoc done (x ∷ []) (read less beyond).0) ∙ ap (λ ys. ys ++ (read less beyond).0) (sym g);
      beyond = h.beyond ∙ ap (λ n. (read n rest).1) e ∙ ap (λ (r : List _ × List ℕ). r.1) is;
    }

-- a loop has read i of so many items into a list of what was `first` then, of which nothing else has changed; `rest` are the words after them
pub record Fills {S A : Type 0} (get : S → List A) (put : S → List A → S) (read : ℕ → List ℕ → List A × List ℕ) (Tells : ℕ → List ℕ → Type 0)
    (first : S) (count : ℕ) (words : List ℕ) (now : S) (i : ℕ) (rest : List ℕ) : Type 0 where
  pub same : now ≡ put first (get now)
  pub reads : Reads read (get first) count words (get now) (count - i) rest
  pub told : Tells count words → Tells (count - i) rest

pub fills_none : {S A : Type 0} {get : S → List A} {put : S → List A → S} {read : ℕ → List ℕ → List A × List ℕ} {Tells : ℕ → List ℕ → Type 0}
    (first : S) (count : ℕ) (words : List ℕ) → first ≡ put first (get first) → Fills get put read Tells first count words first 0 words
fills_none {get = get} {read = read} {Tells = Tells} first count words same =
    let whole : count ≡ count - 0 = omega arith in
    record {
      same = same;
      reads = record { items = ap (λ n. get first ++ (read n words).0) whole; beyond = ap (λ n. (read n words).1) whole };
      told = λ h. subst (λ (n : ℕ). Tells n words) whole h;
    }

-- what the words tell of those that are left, where one is
pub fills_next : {S A : Type 0} {get : S → List A} {put : S → List A → S} {read : ℕ → List ℕ → List A × List ℕ} {Tells : ℕ → List ℕ → Type 0}
    {first now : S} {count i : ℕ} {words rest : List ℕ} → i < count → Fills get put read Tells first count words now i rest
    → Tells count words → Tells (suc (count - (i + 1))) rest
fills_next {Tells = Tells} {count = count} {i = i} {rest = rest} lt h told =
    let left : count - i ≡ suc (count - (i + 1)) = omega arith in subst (λ (n : ℕ). Tells n rest) left (h.told told)

-- one item more
pub fills_step : {S A : Type 0} {get : S → List A} {put : S → List A → S} {read : ℕ → List ℕ → List A × List ℕ} {Tells : ℕ → List ℕ → Type 0}
    {first old : S} {count i : ℕ} {words rest : List ℕ} (new : S) (x : A) (beyond : List ℕ) → i < count
    → Fills get put read Tells first count words old i rest → new ≡ put first (get new) → get new ≡ get old ++ x ∷ []
    → ((n : ℕ) → read (suc n) rest ≡ (x ∷ (read n beyond).0, (read n beyond).1)) → ((n : ℕ) → Tells (suc n) rest → Tells n beyond)
    → Fills get put read Tells first count words new (i + 1) beyond
fills_step {get = get} {read = read} {first = first} {old = old} {count = count} {i = i} {words = words} {rest = rest} new x beyond lt h same grown is on =
    let less : ℕ = count - (i + 1) in
    let left : count - i ≡ suc less = omega arith in
    record {
      same = same;
      reads = reads_more read (get first) count words (get old) (count - i) rest x less beyond (get new) grown left (is less) h.reads;
      told = λ told. on less (fills_next lt h told);
    }

-- the same where the list is a field
pub fills_more : {S A : Type 0} {get : S → List A} {put : S → List A → S} {read : ℕ → List ℕ → List A × List ℕ} {Tells : ℕ → List ℕ → Type 0}
    {first old : S} {count i : ℕ} {words rest : List ℕ} (new : S) (x : A) (beyond : List ℕ) → i < count
    → Fills get put read Tells first count words old i rest → ((s : S) (xs : List A) → get (put s xs) ≡ xs)
    → ((s : S) (xs ys : List A) → put (put s xs) ys ≡ put s ys) → new ≡ put old (get old ++ x ∷ [])
    → ((n : ℕ) → read (suc n) rest ≡ (x ∷ (read n beyond).0, (read n beyond).1)) → ((n : ℕ) → Tells (suc n) rest → Tells n beyond)
    → Fills get put read Tells first count words new (i + 1) beyond
fills_more {get = get} {put = put} {first = first} {old = old} new x beyond lt h got twice is reads on =
    let grown = get old ++ x ∷ [] in
    let now : get new ≡ grown = ap get is ∙ got old grown in
    fills_step new x beyond lt h
    (is ∙ ap (λ s. put s grown) h.same ∙ twice first (get old) grown ∙ ap (λ xs. put first xs) (sym now)) now reads on

-- where nothing is read, as what the words would tell of one item more doesn't hold
pub fills_lost : {S A B : Type 0} {get : S → List A} {put : S → List A → S} {read : ℕ → List ℕ → List A × List ℕ} {Tells : ℕ → List ℕ → Type 0}
    {first now : S} {count i : ℕ} {words rest : List ℕ} (e : Unread) → i < count → Fills get put read Tells first count words now i rest
    → ((n : ℕ) → Tells (suc n) rest → B) → IsLost B e → IsLost (Tells count words) e
fills_lost {count = count} {i = i} e lt h of lost = lost_by e (λ told. of (count - (i + 1)) (fills_next lt h told)) lost

-- all are read
pub fills_all : {S A : Type 0} {get : S → List A} {put : S → List A → S} {read : ℕ → List ℕ → List A × List ℕ} {Tells : ℕ → List ℕ → Type 0}
    {first now : S} {count i : ℕ} {words rest : List ℕ} → count ≤ i → read 0 rest ≡ ([], rest) → Fills get put read Tells first count words now i rest
    → (now ≡ put first (get first ++ (read count words).0)) × (rest ≡ (read count words).1)
fills_all {get = get} {put = put} {read = read} {first = first} {now = now} {count = count} {i = i} {rest = rest} le none h =
    let left : count - i ≡ 0 = omega arith in
    let done = ap (λ n. (read n rest)) left ∙ none in (
      h.same ∙ ap (put first) (sym (h.reads.items ∙ ap (λ (r : List _ × List ℕ). get now ++ r.0) done ∙ append-nil (get now))),
      sym (h.reads.beyond ∙ ap (λ (r : List _ × List ℕ). r.1) done),
    )
