-- What is read from words is what they were made of.
use Rattle.std.proofs.Common.{◌≡◌, ℕ, ◌+◌, ◌-◌, ◌≤◌, ◌^◌, ◌==◌, Bool, true, false, List, [], ◌∷◌}
use Rattle.std.proofs.Common.{◌++◌, length, map, Option, Some, None, refl, sym, ap, ◌∙◌, arith}
use Rattle.std.specs.List.{AllByRecursion}
use Rattle.std.proofs.lemmas.Bool.Decides.{nat_tests}
use Rattle.plain_monitor.specs.declared.entry.Value.{Value}
use Rattle.plain_monitor.specs.declared.entry.Value.TheVariants.{Nil, Int, Ref}
use Rattle.plain_monitor.specs.ValueWords.{IsSpellable, SpellsValue, word_of, read_value}
use Rattle.plain_monitor.proofs.ValuesRead.{word_of-only, read_value-word_of}
use Rattle.object_program.specs.Program.{ProgramText, has_new, objects_total}
use Rattle.object_program.specs.Valid.{IsProgram}
use Rattle.plain_machine.specs.Values.{IsValueOf}
use Rattle.machine_words.specs.Readers.{option_word, word_option, pair_words, read_pairs, value_or_nil, value_at, read_values}

pub option_back : (o : Option ℕ) → word_option (option_word o) ≡ o
option_back None = refl
option_back (Some n) =
    let above : (n + 1 == 0) ≡ false = grind (arith, nat_tests) in
    let same : n + 1 - 1 ≡ n = omega arith in
    rw above (ap Some same)

pub pairs_back : (ps : List (ℕ × ℕ)) (ws : List ℕ) → read_pairs (length ps) (pair_words ps ++ ws) ≡ (ps, ws)
pairs_back [] ws = refl
pairs_back (p ∷ ps) ws = ap (λ (r : List (ℕ × ℕ) × List ℕ). (p ∷ r.0, r.1)) (pairs_back ps ws)

pub values_back : (vs : List Value) (ws : List ℕ) → AllByRecursion IsSpellable vs → read_values (length vs) (map word_of vs ++ ws) ≡ (vs, ws)
values_back [] ws all = refl
values_back (v ∷ vs) ws all =
    λ i. (value_or_nil (read_value-word_of v all.0 i) ∷ (values_back vs ws all.1 i).0, (values_back vs ws all.1 i).1)

-- the value that a word spells
pub value_read : (word : ℕ) (v : Value) → SpellsValue v word → v ≡ value_at word
value_read word v h = sym (ap value_or_nil (ap read_value (word_of-only v word h) ∙ read_value-word_of v h.0))

-- a value that stands beside the objects of a program has a word
numbers_few : (p : ProgramText) → IsProgram p → objects_total p ≤ 2 ^ 15
numbers_few p h = go (has_new p.threads) refl
  where
    go : (b : Bool) → has_new p.threads ≡ b → objects_total p ≤ 2 ^ 15
    go true e = rw e (omega (arith, h.objects_few, h.threads_few))
    go false e = rw e (omega (arith, h.objects_few))

spells : (n : ℕ) (v : Value) → n ≤ 2 ^ 15 → IsValueOf n v → IsSpellable v
spells n Nil few h = tt
spells n (Int z) few h = h.1
spells n (Ref o) few h = omega (arith, few, h.0)

pub all_spelled : (p : ProgramText) (vs : List Value) → IsProgram p → AllByRecursion (IsValueOf (objects_total p)) vs → AllByRecursion IsSpellable vs
all_spelled p [] valid all = tt
all_spelled p (v ∷ vs) valid all = (spells (objects_total p) v (numbers_few p valid) all.0, all_spelled p vs valid all.1)
