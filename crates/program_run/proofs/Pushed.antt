-- Lists that are made by pushing what each item of another one gives, in their order.
use Rattle.std.proofs.Common.{◌≡◌, ℕ, ◌+◌, ◌<◌, ◌≤◌, Bool, true, cond, List, [], ◌∷◌, ◌++◌, Option, get_or, length, map, replicate, take}
use Rattle.std.proofs.Common.{refl, sym, ap, ◌∙◌, append_assoc}
use Rattle.std.proofs.lemmas.List.{map_more, map_push, replicate_more, take_all}
use Rattle.heap_table.specs.declared.shots.Cell.{Cell}
use Rattle.heap_table.specs.Cells.{cells_shown}
use Rattle.lock_journal.specs.declared.record.Cell.{Cell as CellLeft}
use Rattle.program_run.specs.Left.{cells_left}

-- what a push leaves that doesn't fail
pub pushed_well : {X : Type 0} (b : Bool) (before after : List X) (x : X) → after ≡ cond b (before ++ x ∷ []) before → true ≡ b → after ≡ before ++ x ∷ []
pushed_well b before after x items well = items ∙ ap (λ w. cond w (before ++ x ∷ []) before) (sym well)

-- so far those of the first i items are pushed
module _ {X Y : Type 0} (f : X → Y) (xs : List X) (i : ℕ) where
  pub pushed_on : (d : X) (before after : List Y) (y : Y) → i < length xs → before ≡ map f (take i xs) → after ≡ before ++ y ∷ []
      → y ≡ f (get_or xs i d) → after ≡ map f (take (i + 1) xs)
  pushed_on d before after y within are pushed is = pushed ∙ (λ j. are j ++ is j ∷ []) ∙ sym (map_more f xs i d within)

  pub all_pushed : (ys : List Y) → length xs ≤ i → ys ≡ map f (take i xs) → ys ≡ map f xs
  all_pushed ys over are = are ∙ ap (map f) (take_all i xs over)

-- the same item once more
pub one_more : {X : Type 0} (base before after : List X) (n : ℕ) (x : X) → before ≡ base ++ replicate n x → after ≡ before ++ x ∷ []
    → after ≡ base ++ replicate (n + 1) x
one_more base before after n x are pushed =
    pushed ∙ ap (λ l. l ++ x ∷ []) are ∙ append_assoc base (replicate n x) (x ∷ []) ∙ ap (λ l. base ++ l) (replicate_more n x)

-- the cells of a record, of which each is shown first
pub cells_on : (cells : List Cell) (i : ℕ) (d : Cell) (before after : List CellLeft) → i < length cells → before ≡ cells_left (cells_shown (take i cells))
    → after ≡ before ++ record { owner = (get_or cells i d).owner; count = (get_or cells i d).count } ∷ []
    → after ≡ cells_left (cells_shown (take (i + 1) cells))
cells_on cells i d before after within are pushed =
    let shown = cells_shown (take i cells) in
    let x = get_or cells i d in
    pushed ∙ ap (λ l. l ++ record { owner = x.owner; count = x.count } ∷ []) are
    ∙ sym (map_push (λ (y : Option ℕ × ℕ). record { owner = y.0; count = y.1 }) shown (x.owner, x.count))
    ∙ ap cells_left (pushed_on (λ (c : Cell). (c.owner, c.count)) cells i d shown _ (x.owner, x.count) within refl refl refl)
