-- Compiling adds no `new` and leaves none out: the code has one where the program with blocks has one, and makes objects of as many slots.
use Rattle.std.proofs.Common.{◌≡◌, ℕ, ◌+◌, ◌*◌, ◌||◌, max, Bool, true, false, if◌then◌else◌, List}
use Rattle.std.proofs.Common.{[], ◌∷◌, ◌++◌, length, map, replicate, refl, sym, ap, ◌∙◌, arith}
use Rattle.std.specs.List.{list_any}
use Rattle.std.proofs.lemmas.List.{length-map}
use Rattle.std.proofs.lemmas.List.Folds.{list_any-append}
use Rattle.plain_monitor.specs.Limits.{most_made}
use Rattle.object_program.specs.declared.program.ClassDef.{ClassDef}
use Rattle.object_program.specs.declared.program.Code.{Code}
use Rattle.object_program.specs.declared.program.Code.TheVariants as instr
use Rattle.object_program.specs.Program.{is_new, has_new, slots_made, most_in_code, most_in, declared_total}
use Rattle.object_program.specs.Program.{made_total, objects_total, made_slots, shape_from, shape_of}
use Rattle.sync_source.specs.declared.source.Test.{Test}
use Rattle.sync_source.specs.Source.{Statements, Nothing, Plain, Sync, If, While, SyncText, SyncThreadText}
use Rattle.sync_source.specs.SyncMachine.{instructions_of, without_blocks, world_of}
use Rattle.sync_source.specs.Compiled.{size, test_code, code_at, thread_code, compiled}

-- two answers, each for its equal
either_same : (a b c d : Bool) → a ≡ c → b ≡ d → (a || b) ≡ (c || d)
either_same a b c d e f = ap (λ x. x || b) e ∙ ap (λ x. c || x) f

swapped : (a b c : Bool) → ((a || b) || c) ≡ (b || (a || c))
swapped true true c = refl
swapped true false c = refl
swapped false b c = refl

-- a test is no `new`
test_aside : (t : Test) (n : ℕ) (cs : List Code) → list_any is_new (test_code t n ∷ cs) ≡ list_any is_new cs
test_aside t n cs = go t.equal
  where
    go : (equal : Bool) → list_any is_new ((if equal then instr.Jeq t.x t.y (n + 1) else instr.Jlt t.x t.y (n + 1)) ∷ cs) ≡ list_any is_new cs
    go true = refl
    go false = refl

-- the code of statements has a `new` where they have one, wherever it stands
has_new_alike : (b : Statements) (at : ℕ) → list_any is_new (instructions_of b) ≡ list_any is_new (code_at at b)
has_new_alike Nothing at = refl
has_new_alike (Plain c r) at = ap (λ x. is_new c || x) (has_new_alike r (at + 1))
has_new_alike (Sync x b r) at =
    let to = at + 1 + size b + 1 in
    list_any-append is_new (instructions_of b) (instructions_of r)
    ∙ either_same _ _ _ _ (has_new_alike b (at + 1)) (has_new_alike r to)
    ∙ sym (list_any-append is_new (code_at (at + 1) b) (instr.Exit x ∷ code_at to r))
has_new_alike (If t b c r) at =
    let to = at + 1 + size c + 1 in
    let after = code_at to b ++ code_at (to + size b) r in
    list_any-append is_new (instructions_of b ++ instructions_of c) (instructions_of r)
    ∙ either_same _ _ _ _ (list_any-append is_new (instructions_of b) (instructions_of c)) refl
    ∙ either_same _ _ _ _ (either_same _ _ _ _ (has_new_alike b to) (has_new_alike c (at + 1))) (has_new_alike r (to + size b))
    ∙ swapped (list_any is_new (code_at to b)) (list_any is_new (code_at (at + 1) c)) (list_any is_new (code_at (to + size b) r))
    ∙ ap (λ x. list_any is_new (code_at (at + 1) c) || x) (sym (list_any-append is_new (code_at to b) (code_at (to + size b) r)))
    ∙ sym (list_any-append is_new (code_at (at + 1) c) (instr.Jump (to + size b + 1) ∷ after))
    ∙ sym (test_aside t to (code_at (at + 1) c ++ instr.Jump (to + size b + 1) ∷ after))
has_new_alike (While t b r) at =
    let to = at + 1 + 1 in
    let back = code_at to b ++ instr.Jump (at + 1) ∷ code_at (to + size b + 1) r in
    list_any-append is_new (instructions_of b) (instructions_of r)
    ∙ either_same _ _ _ _ (has_new_alike b to) (has_new_alike r (to + size b + 1))
    ∙ sym (list_any-append is_new (code_at to b) (instr.Jump (at + 1) ∷ code_at (to + size b + 1) r))
    ∙ sym (test_aside t to (instr.Jump (to + size b + 1 + 1) ∷ back))

module _ (classes : List ClassDef) where
  most_append : (cs ds : List Code) → most_in_code classes (cs ++ ds) ≡ max (most_in_code classes cs) (most_in_code classes ds)
  most_append [] ds = omega arith
  most_append (c ∷ cs) ds = omega (arith, most_append cs ds)

  test_needs_none : (t : Test) (n : ℕ) → slots_made classes (test_code t n) ≡ 0
  test_needs_none t n = go t.equal
    where
      go : (equal : Bool) → slots_made classes (if equal then instr.Jeq t.x t.y (n + 1) else instr.Jlt t.x t.y (n + 1)) ≡ 0
      go true = refl
      go false = refl

  -- the largest class that a `new` names is the same one, wherever the code stands
  most_alike : (b : Statements) (at : ℕ) → most_in_code classes (instructions_of b) ≡ most_in_code classes (code_at at b)
  most_alike Nothing at = refl
  most_alike (Plain c r) at = ap (λ n. max (slots_made classes c) n) (most_alike r (at + 1))
  most_alike (Sync x b r) at =
      let to = at + 1 + size b + 1 in
      let source = most_append (instructions_of b) (instructions_of r) in
      let code = most_append (code_at (at + 1) b) (instr.Exit x ∷ code_at to r) in
      omega (arith, source, code, most_alike b (at + 1), most_alike r to)
  most_alike (If t b c r) at =
      let to = at + 1 + size c + 1 in
      let after = code_at to b ++ code_at (to + size b) r in
      let source = most_append (instructions_of b ++ instructions_of c) (instructions_of r) in
      let blocks = most_append (instructions_of b) (instructions_of c) in
      let code = most_append (code_at (at + 1) c) (instr.Jump (to + size b + 1) ∷ after) in
      let last = most_append (code_at to b) (code_at (to + size b) r) in
      omega (arith, source, blocks, code, last, test_needs_none t to, most_alike b to, most_alike c (at + 1), most_alike r (to + size b))
  most_alike (While t b r) at =
      let to = at + 1 + 1 in
      let source = most_append (instructions_of b) (instructions_of r) in
      let code = most_append (code_at to b) (instr.Jump (at + 1) ∷ code_at (to + size b + 1) r) in
      omega (arith, source, code, test_needs_none t to, most_alike b to, most_alike r (to + size b + 1))

module _ (decimal : ℕ → List ℕ) where
  threads_have_new : (ts : List SyncThreadText) → has_new (map without_blocks ts) ≡ has_new (map (thread_code decimal) ts)
  threads_have_new [] = refl
  threads_have_new (t ∷ ts) = either_same _ _ _ _ (has_new_alike t.body 0) (threads_have_new ts)

  most_in_threads : (classes : List ClassDef) (ts : List SyncThreadText)
      → most_in classes (map without_blocks ts) ≡ most_in classes (map (thread_code decimal) ts)
  most_in_threads classes [] = refl
  most_in_threads classes (t ∷ ts) = omega (arith, most_alike classes t.body 0, most_in_threads classes ts)

  module _ (p : SyncText) where
    -- there are as many threads
    pub same_count : length (map without_blocks p.threads) ≡ length (map (thread_code decimal) p.threads)
    same_count = length-map p.threads without_blocks ∙ sym (length-map p.threads (thread_code decimal))

    made_alike : made_total (world_of p) ≡ made_total (compiled decimal p)
    made_alike =
        ap (λ b. if b then most_made * length (map without_blocks p.threads) else 0) (threads_have_new p.threads)
        ∙ ap (λ n. if has_new (map (thread_code decimal) p.threads) then most_made * n else 0) same_count

    -- an object that a thread makes has as many slots
    pub same_made_slots : made_slots (world_of p) ≡ made_slots (compiled decimal p)
    same_made_slots = most_in_threads p.classes p.threads

    -- there are as many numbers of objects
    pub same_total : objects_total (world_of p) ≡ objects_total (compiled decimal p)
    same_total = ap (λ n. declared_total (world_of p) + n) made_alike

    -- and the objects have the same classes and as many slots
    pub same_shape : shape_of (world_of p) ≡ shape_of (compiled decimal p)
    same_shape =
        ap (λ n. shape_from p.classes p.objects ++ replicate n (0, made_slots (world_of p))) made_alike
        ∙ ap (λ k. shape_from p.classes p.objects ++ replicate (made_total (compiled decimal p)) (0, k)) same_made_slots
