-- A parse takes the words from which options are gathered: it fails only for want of memory.
use Rattle.std.proofs.Common.{◌≡◌, ◌∙◌, ℕ, Bool, true, false, List, [], ◌∷◌, refl, ap, ap₂, codes, Option, Some, None, option_map}
use Rattle.std.specs.Prelude.{is_some, if◌then◌else◌, ◌&&◌, ◌||◌}
use Rattle.std.specs.Option.{option_map_or}
use Rattle.std.specs.Str.{bytes_eq}
use Rattle.std.proofs.lemmas.Option.{option_and_then_some}
use Rattle.clap.specs.Lexer.{long_of}
use Rattle.clap.specs.Walk.{Held, Row, Rule, Walk, Waiting, Step, idle, option, trailing, arg_by_long, long_met, after_flag}
use Rattle.clap.specs.Walk.{long_or_other, short_or_plain, has_row, walk_from, walked, settled, nothing_held}
use Rattle.clap.specs.Simple.{Shape, built}
use Rattle.clap.specs.Takes.{takes, turn_passes, walk_passes, long_passes, flag_word_passes, bundle_passes, settle_passes, step_passes, level_passes}
use Rattle.clap.proofs.TakesLemmas.{leaf_takes}
use Rattle.cli_args.specs.declared.words.Kind.{Kind}
use Rattle.cli_args.specs.declared.words.Kind.TheVariants.{Valued, Flag}
use Rattle.cli_args.specs.Command.{Text, Given, Reading, giving, gathered, after_word, after_word_in, after_met}
use Rattle.cli_args.specs.Command.{met_parts, met_as, at_equals, after_hyphen, is_given, kind_of, nothing_read}
use Rattle.cli_args.specs.inner.Clap.{run_app}
use Rattle.cli_args.proofs.Rows.{rows_given, has_row_given, use_valued, use_flag}
use Rattle.cli_args.proofs.Rules.{run_rules, valued_by_long, flag_by_long}
use Rattle.cli_args.proofs.Walks.{At, StandsAt, standing, hyphens, after_hyphens, not_hyphens, long_by_text, long_of_value}
use Rattle.cli_args.proofs.Walks.{short_of_value, value_is_not_hyphens, fresh_next, walk_steps, walk_gathers, stands_at_first}

abbrev run_shape : Shape
run_shape = (built run_app).top

-- ---- one step

abbrev turn_by : Bool → Option (Text × Option Text) → Waiting → Text → Held → ℕ → Bool
turn_by hyphens_only long waiting word h p =
    let m : Held × Step = (if hyphens_only then (h, trailing p) else long_or_other run_rules waiting word long h) in
    (hyphens_only || flag_word_passes run_rules false long word h) && step_passes run_shape p m.0 m.1

turned_idle : (h : Held) (p : ℕ) (word : Text)
    → turn_passes run_shape [] (standing h idle p) word ≡ turn_by (bytes_eq word hyphens) (long_of word) idle word h p
turned_idle h p word = refl

turned_waiting : (h : Held) (name : Text) (p : ℕ) (word : Text)
    → turn_passes run_shape [] (standing h (option name) p) word ≡ turn_by (bytes_eq word hyphens) (long_of word) (option name) word h p
turned_waiting h name p word = refl

abbrev long_turn : Option Rule → Option Text → Text → Held → ℕ → Bool
long_turn found value word h p =
    let m = long_met run_rules found value h in
    let after = after_flag run_rules idle word m.0 m.1 in
    long_passes run_rules false found value h && step_passes run_shape p after.0 after.1

turned_option : (word : Text) (x : ℕ) (xs : Text) (h : Held) (p : ℕ) → after_hyphens word ≡ Some (x ∷ xs)
    → turn_passes run_shape [] (standing h idle p) word
    ≡ long_turn (arg_by_long run_rules (at_equals (x ∷ xs)).0) (at_equals (x ∷ xs)).1 word h p
turned_option word x xs h p e =
    turned_idle h p word
    ∙ ap (λ b. turn_by b (long_of word) idle word h p) (not_hyphens word x xs (bytes_eq word hyphens) refl e)
    ∙ ap (λ o. turn_by false o idle word h p) (long_by_text word x xs e)

new_row : (given : Given) (name : Text) (rows : List Row) → rows ≡ rows_given given → is_given name given ≡ false → has_row name rows ≡ false
new_row given name rows e fresh = ap (has_row name) e ∙ has_row_given name given ∙ fresh

option_turns : (given : Given) (name : Text) (value : Option Text) (word : Text) (h : Held) (p : ℕ) (later : Reading) (kind : Option Kind)
    → kind_of name ≡ kind → (settled run_rules h).rows ≡ rows_given given → settle_passes run_rules false h ≡ true
    → after_met given (met_as kind name value) ≡ Some later → long_turn (arg_by_long run_rules name) value word h p ≡ true
option_turns given name value word h p later None k rows passes e = cc
option_turns given name (Some value) word h p later (Some Flag) k rows passes e = cc
option_turns given name (Some value) word h p later (Some Valued) k rows passes e =
    let new = fresh_next (is_given name given) (giving given name value) later e in
    ap (λ found. long_turn found (Some value) word h p) (valued_by_long name k)
    ∙ ap₂ (λ a b. (a && b) && true) passes (use_valued name value (settled run_rules h).rows (new_row given name (settled run_rules h).rows rows new.0))
option_turns given name None word h p later (Some Flag) k rows passes e =
    let new = fresh_next (is_given name given) (giving given name (codes "true")) later e in
    ap (λ found. long_turn found None word h p) (flag_by_long name k)
    ∙ ap₂ (λ a b. (a && b) && true) passes (use_flag name (settled run_rules h).rows (new_row given name (settled run_rules h).rows rows new.0))
option_turns given name None word h p later (Some Valued) k rows passes e =
    ap (λ found. long_turn found None word h p) (valued_by_long name k) ∙ ap (λ a. a && true) passes

word_turns : (given : Given) (word : Text) (h : Held) (p : ℕ) (later : Reading) (text : Option Text) → after_hyphens word ≡ text
    → (settled run_rules h).rows ≡ rows_given given → settle_passes run_rules false h ≡ true
    → after_met given (met_parts (option_map at_equals text)) ≡ Some later → turn_passes run_shape [] (standing h idle p) word ≡ true
word_turns given word h p later None t rows passes e = cc
word_turns given word h p later (Some []) t rows passes e = cc
word_turns given word h p later (Some (x ∷ xs)) t rows passes e =
    let name = (at_equals (x ∷ xs)).0 in
    turned_option word x xs h p t ∙ option_turns given name (at_equals (x ∷ xs)).1 word h p later (kind_of name) refl rows passes e

abbrev short_turn : Option Text → Text → Text → Held → ℕ → Bool
short_turn flags name word h p =
    let m = short_or_plain run_rules (option name) word flags h in
    option_map_or (λ fs. bundle_passes run_rules false fs h) flags true && step_passes run_shape p m.0 m.1

value_turns : (name word : Text) (h : Held) (p : ℕ) (o : Option Text) (r later : Reading) → after_hyphen word ≡ o
    → (if is_some o then None else Some r) ≡ Some later → turn_passes run_shape [] (standing h (option name) p) word ≡ true
value_turns name word h p (Some text) r later b e = cc
value_turns name word h p None r later b e =
    turned_waiting h name p word
    ∙ ap (λ t. turn_by t (long_of word) (option name) word h p) (value_is_not_hyphens word (bytes_eq word hyphens) refl b)
    ∙ ap (λ o. turn_by false o (option name) word h p) (long_of_value word b)
    ∙ ap (λ o. short_turn o name word h p) (short_of_value word b)

turns : (given : Given) (waiting : Option Text) (w : Walk) (word : Text) (later : Reading) → StandsAt given waiting w
    → after_word_in given waiting word ≡ Some later → turn_passes run_shape [] w word ≡ true
turns given None w word later stands e =
    ap (λ v. turn_passes run_shape [] v word) stands.at
    ∙ word_turns given word stands.held stands.position later (after_hyphens word) refl stands.rows stands.passes e
turns given (Some name) w word later waits e =
    ap (λ v. turn_passes run_shape [] v word) waits.at
    ∙ value_turns name word waits.held waits.position (after_hyphen word) (giving given name word) later refl e

-- ---- all words

walk_takes : (words : List Text) (r : Reading) (w : Walk) (all : Given) → At r w → gathered r words ≡ Some all → walk_passes run_shape [] w words ≡ true
unfolding walk_passes
walk_takes [] r w all at e = refl
walk_takes (word ∷ words) r w all at e =
    option_and_then_some (λ later. gathered later words) (after_word r word) all e
    (λ later took rest. ap₂ (λ a b. a && b) (turns r.given r.waiting w word later at took)
    (walk_takes words later (walked run_rules [] w word) all (walk_steps r.given r.waiting w word later at took) rest))

level_takes : (words : List Text) (given : Given) → gathered nothing_read words ≡ Some given → level_passes run_shape [] nothing_held words false ≡ true
level_takes words given e =
    let stands = walk_gathers words nothing_read (walk_from nothing_held) given stands_at_first e in
    ap₂ (λ a b. a && (b && true)) (walk_takes words nothing_read (walk_from nothing_held) given stands_at_first e)
    (ap (λ w. settle_passes run_rules false w.held) stands.at ∙ stands.passes)

pub takes_gathered : (words : List Text) (given : Given) → gathered nothing_read words ≡ Some given → takes run_app words ≡ true
takes_gathered words given e = leaf_takes (built run_app) nothing_held words refl (level_takes words given e)
