-- Taking bytes from a source and putting them into a sink, piece by piece.
use Rattle.std.proofs.Common.{◌≡◌, ℕ, zero, suc, ◌+◌, ◌-◌, ◌≤◌, List, [], ◌∷◌, ◌++◌, length, take, drop, refl}
use Rattle.std.proofs.Common.{ap, sym, subst, ◌∙◌, arith, append_assoc, zero-add, Option, Some, length-append, length-drop}
use Rattle.std.proofs.lemmas.List.{take-append-drop, take-append-le, length-take-le, drop-drop, take_all, drop_all}
use Rattle.run_io.specs.Source.{Gives, IsAtEnd}
use Rattle.run_io.specs.Sink.{Appends}
use Rattle.bias_cli.specs.Input.{TookFirst, Took, TookSome}
use Rattle.bias_cli.specs.inner.Input.{TookMore}
use Rattle.bias_cli.specs.Output.{Wrote, WroteFront}

take_joined : (n m : ℕ) (xs : List ℕ) → take (n + m) xs ≡ take n xs ++ take m (drop n xs)
take_joined zero m xs = rw zero-add refl
take_joined (suc n) m [] = take_all (suc n + m) [] (omega arith) ∙ sym (take_all m [] (omega arith))
take_joined (suc n) m (x ∷ xs) = let e : suc n + m ≡ suc (n + m) = omega arith in rw e (ap (λ ys. x ∷ ys) (take_joined n m xs))

pub took_nothing : (n : ℕ) (l : Option (List ℕ)) (bs : List ℕ) → n ≡ 0 → bs ≡ [] → TookFirst n l l bs
took_nothing n l bs none empty = subst (λ m. TookFirst m l l bs) (sym none) (λ left e. (empty, e))

pub took_more : (n m : ℕ) (l0 l1 l2 : Option (List ℕ)) (bs cs : List ℕ) → TookFirst n l0 l1 bs → TookMore m l1 l2 bs cs → TookFirst (n + m) l0 l2 cs
took_more n m l0 l1 l2 bs cs first more left e =
    let a = first left e in
    let b = more (drop n left) a.1 in
    (b.0 ∙ ap (λ xs. xs ++ take m (drop n left)) a.0 ∙ sym (take_joined n m left), b.1 ∙ ap Some (drop-drop m n left))

-- where nothing is left after the first n bytes, they are all
pub took_to_end : (n most : ℕ) (l0 l1 l2 : Option (List ℕ)) (bs cs : List ℕ) → n ≤ most + 1
    → TookFirst n l0 l1 bs → TookMore 0 l1 l2 bs cs → IsAtEnd l1 → Took most l0 l2 cs
took_to_end n most l0 l1 l2 bs cs within first more ended left e =
    let none = ended (drop n left) (first left e).1 in
    let short : length left ≤ n = omega (arith, length-drop n left, ap length none) in
    let all = took_more n 0 l0 l1 l2 bs cs first more left e in (
      all.0 ∙ take_all (n + 0) left (omega arith) ∙ sym (take_all (most + 1) left (omega arith)),
      all.1 ∙ ap Some (drop_all (n + 0) left (omega arith) ∙ sym (drop_all (most + 1) left (omega arith))),
    )

-- a write that was offered what is left of the piece
pub wrote_more : (n m : ℕ) (h0 h1 h2 : Option (List ℕ)) (piece left : List ℕ) → left ≡ drop n piece
    → Wrote h0 h1 (take n piece) → Appends h1 h2 left m → Wrote h0 h2 (take (n + m) piece)
wrote_more n m h0 h1 h2 piece left is first more held e =
    more (held ++ take n piece) (first held e)
    ∙ ap Some (append_assoc held (take n piece) (take m left)
    ∙ ap (λ xs. held ++ (take n piece ++ take m xs)) is ∙ ap (λ xs. held ++ xs) (sym (take_joined n m piece)))

pub wrote_front : (n : ℕ) (h0 h1 h2 : Option (List ℕ)) (piece : List ℕ) → Wrote h0 h1 (take n piece) → h2 ≡ h1 → WroteFront h0 h2 piece
wrote_front n h0 h1 h2 piece first kept = (take n piece, drop n piece, sym (take-append-drop n piece), λ held e. kept ∙ first held e)

-- further bytes after the first, of which only some may have been kept
pub took_some : (n most : ℕ) (l0 l1 l2 : Option (List ℕ)) (bs : List ℕ) → n ≤ most → TookFirst n l0 l1 bs → TookSome (most - n) l1 l2 → TookSome most l0 l2
took_some n most l0 l1 l2 bs within first some left e =
    let more = some (drop n left) (first left e).1 in (n + more.0, omega (arith, more.1), more.2 ∙ ap Some (drop-drop more.0 n left))

-- the first elements of the front of a buffer
pub in_buffer : (n : ℕ) (front rest : List ℕ) → n ≤ length front → n ≤ length (front ++ rest)
in_buffer n front rest within = let parts = length-append front rest in omega (arith, parts, within)

pub front_length : (n : ℕ) (front rest : List ℕ) → n ≤ length front → length (take n (front ++ rest)) ≡ n
front_length n front rest within = ap length (take-append-le n front rest within) ∙ length-take-le n front within

-- what a read gave, where it stands at the front of a buffer and was put after the bytes
pub took_behind : (n : ℕ) (l0 l1 : Option (List ℕ)) (front rest bs cs : List ℕ) → n ≤ length front → Gives l0 l1 front n
    → cs ≡ bs ++ take n (front ++ rest) → TookMore n l0 l1 bs cs
took_behind n l0 l1 front rest bs cs within given are left e =
    let a = given left e in (are ∙ ap (λ xs. bs ++ xs) (take-append-le n front rest within ∙ a.0), a.1)

pub took_within : (n room : ℕ) (l0 l1 : Option (List ℕ)) (front : List ℕ) → n ≤ room → Gives l0 l1 front n → TookSome room l0 l1
took_within n room l0 l1 front within given left e = (n, within, (given left e).1)

pub took_none : (room : ℕ) (l0 l1 : Option (List ℕ)) → l1 ≡ l0 → TookSome room l0 l1
took_none room l0 l1 kept left e = (0, omega arith, kept ∙ e)
