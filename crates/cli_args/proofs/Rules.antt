-- The rules of the command when it is built, found by their names.
use Rattle.std.proofs.Common.{◌≡◌, ◌∙◌, Bool, true, false, cond, List, [], ◌∷◌, ◌++◌, map, refl, sym, ap, Some, None}
use Rattle.std.specs.Prelude.{◌||◌, ◌&&◌, not, is_some, find, if◌then◌else◌}
use Rattle.std.specs.Str.{bytes_eq}
use Rattle.std.proofs.lemmas.Slice.Eq.{bytes_eq-Decides}
use Rattle.clap.specs.Walk.{Rule, arg_by_id, arg_by_long, has_long}
use Rattle.clap.specs.Simple.{is_simple}
use Rattle.cli_args.specs.declared.words.Kind.TheVariants.{Valued, Flag}
use Rattle.cli_args.specs.Command.{Text, is_one_of, kind_of, valued_names, flag_names}
use Rattle.cli_args.specs.inner.Clap.{run_app}
use Rattle.cli_args.proofs.Rows.{valued, flag}

abbrev pub run_rules : List Rule
run_rules = map valued valued_names ++ map flag flag_names

pub run_is_simple : is_simple run_app ≡ true
run_is_simple = refl

-- ---- the first rule of a name, among rules by name

find_next : (f : Text → Rule) (p : Rule → Bool) (name : Text) (rest : List Rule) → ((n : Text) → p (f n) ≡ bytes_eq n name)
    → (n : Text) (names : List Text) (b : Bool) → bytes_eq n name ≡ b
    → (is_one_of names name ≡ true → find p (map f names ++ rest) ≡ Some (f name))
    → is_one_of (n ∷ names) name ≡ true → find p (map f (n ∷ names) ++ rest) ≡ Some (f name)
find_next f p name rest h n names true q again e =
    ap (λ t. cond t (Some (f n)) (find p (map f names ++ rest))) (h n ∙ q) ∙ ap (λ m. Some (f m)) ((bytes_eq-Decides n name).0 q)
find_next f p name rest h n names false q again e =
    ap (λ t. cond t (Some (f n)) (find p (map f names ++ rest))) (h n ∙ q) ∙ again (sym (ap (λ t. t || is_one_of names name) q) ∙ e)

-- a name that is among these has the rule of its own
find_in : (f : Text → Rule) (p : Rule → Bool) (name : Text) (rest : List Rule) → ((n : Text) → p (f n) ≡ bytes_eq n name)
    → (names : List Text) → is_one_of names name ≡ true → find p (map f names ++ rest) ≡ Some (f name)
find_in f p name rest h [] e = cc
find_in f p name rest h (n ∷ names) e = find_next f p name rest h n names (bytes_eq n name) refl (find_in f p name rest h names) e

pass_next : (f : Text → Rule) (p : Rule → Bool) (name : Text) (rest : List Rule) → ((n : Text) → p (f n) ≡ bytes_eq n name)
    → (n : Text) (names : List Text) (b : Bool) → bytes_eq n name ≡ b
    → (is_one_of names name ≡ false → find p (map f names ++ rest) ≡ find p rest)
    → is_one_of (n ∷ names) name ≡ false → find p (map f (n ∷ names) ++ rest) ≡ find p rest
pass_next f p name rest h n names true q again e = let bad : true ≡ false = sym (ap (λ t. t || is_one_of names name) q) ∙ e in cc
pass_next f p name rest h n names false q again e =
    ap (λ t. cond t (Some (f n)) (find p (map f names ++ rest))) (h n ∙ q) ∙ again (sym (ap (λ t. t || is_one_of names name) q) ∙ e)

-- a name that is not among these is looked for after them
find_past : (f : Text → Rule) (p : Rule → Bool) (name : Text) (rest : List Rule) → ((n : Text) → p (f n) ≡ bytes_eq n name)
    → (names : List Text) → is_one_of names name ≡ false → find p (map f names ++ rest) ≡ find p rest
find_past f p name rest h [] e = refl
find_past f p name rest h (n ∷ names) e = pass_next f p name rest h n names (bytes_eq n name) refl (find_past f p name rest h names) e

-- ---- by the kind of a name

valued_is_one : (a b : Bool) → (if a then Some Valued else if b then Some Flag else None) ≡ Some Valued → a ≡ true
valued_is_one true b e = refl
valued_is_one false true e = cc
valued_is_one false false e = cc

record IsFlag (a b : Bool) : Type 0 where
  no_valued : a ≡ false
  is_flag : b ≡ true

flag_is_one : (a b : Bool) → (if a then Some Valued else if b then Some Flag else None) ≡ Some Flag → IsFlag a b
flag_is_one true b e = cc
flag_is_one false true e = record { no_valued = refl; is_flag = refl }
flag_is_one false false e = cc

is_named : (b : Bool) → (true && (b || false)) ≡ b
is_named true = refl
is_named false = refl

abbrev by_long : Text → Rule → Bool
by_long name = λ a. not (is_some a.index) && has_long a name

abbrev by_id : Text → Rule → Bool
by_id name = λ a. bytes_eq a.id name

pub valued_by_long : (name : Text) → kind_of name ≡ Some Valued → arg_by_long run_rules name ≡ Some (valued name)
valued_by_long name e = find_in valued (by_long name) name (map flag flag_names) (λ n. is_named (bytes_eq n name)) valued_names
    (valued_is_one (is_one_of valued_names name) (is_one_of flag_names name) e)

pub valued_by_id : (name : Text) → kind_of name ≡ Some Valued → arg_by_id run_rules name ≡ Some (valued name)
valued_by_id name e = find_in valued (by_id name) name (map flag flag_names) (λ n. refl) valued_names
    (valued_is_one (is_one_of valued_names name) (is_one_of flag_names name) e)

pub flag_by_long : (name : Text) → kind_of name ≡ Some Flag → arg_by_long run_rules name ≡ Some (flag name)
flag_by_long name e =
    let k = flag_is_one (is_one_of valued_names name) (is_one_of flag_names name) e in
    find_past valued (by_long name) name (map flag flag_names) (λ n. is_named (bytes_eq n name)) valued_names k.no_valued
    ∙ find_in flag (by_long name) name [] (λ n. is_named (bytes_eq n name)) flag_names k.is_flag
