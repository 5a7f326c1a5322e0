-- The walk of the parse over the words, from which options are gathered.
use Rattle.std.proofs.Common.{◌≡◌, ◌∙◌, ℕ, Bool, true, false, List, [], ◌∷◌, ◌++◌, refl, sym, ap, subst, codes, Option, Some, None, option_map}
use Rattle.std.specs.Prelude.{is_some, option_and_then, fold, if◌then◌else◌, nat_lt}
use Rattle.std.specs.Str.{bytes_eq}
use Rattle.std.proofs.lemmas.Slice.Eq.{bytes_eq-Decides}
use Rattle.std.proofs.lemmas.Option.{none-some, option_and_then_some}
use Rattle.clap.specs.Lexer.{strip_byte, long_of, short_of, long_of_rest, short_of_rest}
use Rattle.clap.specs.Walk.{Held, has_row, arg_by_id, Rule, Walk, Waiting, idle, option, Step, trailing, next, arg_by_long, long_met}
use Rattle.clap.specs.Walk.{after_flag, after_step, long_or_other, option_word, walk_from, walked, settled, reacted, used, used_by_id}
use Rattle.clap.specs.Walk.{pushed, nothing_held, settled_rows, started, pending_count, most_values, short_or_plain}
use Rattle.cli_args.specs.declared.words.Kind.{Kind}
use Rattle.cli_args.specs.declared.words.Kind.TheVariants.{Valued, Flag}
use Rattle.cli_args.specs.Command.{Text, Given, Reading, giving, gathered, after_word, after_word_in, after_met}
use Rattle.cli_args.specs.Command.{met_parts, met_as, at_equals, after_hyphen, is_given, kind_of}
use Rattle.clap.specs.Takes.{settle_passes, use_passes}
use Rattle.std.specs.Option.{option_map_or}
use Rattle.cli_args.proofs.Rows.{valued, flag, rows_given, has_row_given, use_valued, used_valued, used_flag}
use Rattle.cli_args.proofs.Rules.{run_rules, valued_by_long, valued_by_id, flag_by_long}

-- ---- what a word looks like to the parse

hyphen_stripped : (word : Text) → strip_byte 45 word ≡ after_hyphen word
hyphen_stripped [] = refl
hyphen_stripped (b ∷ rest) = refl

abbrev pub hyphens : Text
hyphens = 45 ∷ 45 ∷ []

abbrev pub after_hyphens : Text → Option Text
after_hyphens word = option_and_then after_hyphen (after_hyphen word)

stripped_twice : (o : Option Text) → option_and_then (strip_byte 45) o ≡ option_and_then after_hyphen o
stripped_twice None = refl
stripped_twice (Some text) = hyphen_stripped text

-- the parse takes a long word apart as `at_equals` does
pub long_by_text : (word : Text) (x : ℕ) (xs : Text) → after_hyphens word ≡ Some (x ∷ xs) → long_of word ≡ Some (at_equals (x ∷ xs))
long_by_text word x xs e =
    ap (λ o. option_and_then long_of_rest (option_and_then (strip_byte 45) o)) (hyphen_stripped word)
    ∙ ap (option_and_then long_of_rest) (stripped_twice (after_hyphen word) ∙ e)

-- a word after whose hyphens something stands is not the two hyphens
pub not_hyphens : (word : Text) (x : ℕ) (xs : Text) (b : Bool) → bytes_eq word hyphens ≡ b → after_hyphens word ≡ Some (x ∷ xs) → bytes_eq word hyphens ≡ false
not_hyphens word x xs true q e =
    let bad : Some [] ≡ Some (x ∷ xs) = ap after_hyphens (sym ((bytes_eq-Decides word hyphens).0 q)) ∙ e in cc
not_hyphens word x xs false q e = q

pub long_of_value : (word : Text) → after_hyphen word ≡ None → long_of word ≡ None
long_of_value word e = ap (λ o. option_and_then long_of_rest (option_and_then (strip_byte 45) o)) (hyphen_stripped word ∙ e)

pub short_of_value : (word : Text) → after_hyphen word ≡ None → short_of word ≡ None
short_of_value word e = ap (option_and_then short_of_rest) (hyphen_stripped word ∙ e)

pub value_is_not_hyphens : (word : Text) (b : Bool) → bytes_eq word hyphens ≡ b → after_hyphen word ≡ None → bytes_eq word hyphens ≡ false
value_is_not_hyphens word true q e =
    let bad : None ≡ Some (45 ∷ []) = sym e ∙ ap after_hyphen ((bytes_eq-Decides word hyphens).0 q) in absurd (none-some _ bad)
value_is_not_hyphens word false q e = q

-- ---- one step of the walk

abbrev pub standing : Held → Waiting → ℕ → Walk
standing h waiting p = record { held = h; waiting = waiting; position = p; is_trailing = false; stopped = None }

abbrev step_by : Bool → Option (Text × Option Text) → Waiting → Text → Held → ℕ → Walk
step_by hyphens_only long waiting word h p =
    let m : Held × Step = (if hyphens_only then (h, trailing p) else long_or_other run_rules waiting word long h) in
    after_step run_rules word (standing h waiting p) m.0 m.1

walked_idle : (h : Held) (p : ℕ) (word : Text) → walked run_rules [] (standing h idle p) word ≡ step_by (bytes_eq word hyphens) (long_of word) idle word h p
unfolding walked
walked_idle h p word = refl

walked_waiting : (h : Held) (name : Text) (p : ℕ) (word : Text)
    → walked run_rules [] (standing h (option name) p) word ≡ step_by (bytes_eq word hyphens) (long_of word) (option name) word h p
unfolding walked
walked_waiting h name p word = refl

abbrev long_step : Option Rule → Option Text → Text → Held → ℕ → Walk
long_step found value word h p =
    let m = long_met run_rules found value h in
    let after = after_flag run_rules idle word m.0 m.1 in
    after_step run_rules word (standing h idle p) after.0 after.1

walked_option : (word : Text) (x : ℕ) (xs : Text) (h : Held) (p : ℕ) → after_hyphens word ≡ Some (x ∷ xs)
    → walked run_rules [] (standing h idle p) word
    ≡ long_step (arg_by_long run_rules (at_equals (x ∷ xs)).0) (at_equals (x ∷ xs)).1 word h p
walked_option word x xs h p e =
    walked_idle h p word
    ∙ ap (λ b. step_by b (long_of word) idle word h p) (not_hyphens word x xs (bytes_eq word hyphens) refl e)
    ∙ ap (λ o. step_by false o idle word h p) (long_by_text word x xs e)

-- ---- where the walk stands when these options were gathered

pub record Stands (given : Given) (w : Walk) : Type 0 where
  pub held : Held
  pub position : ℕ
  pub at : w ≡ standing held idle position
  pub rows : (settled run_rules held).rows ≡ rows_given given
  -- the use that is not settled yet passes
  pub passes : settle_passes run_rules false held ≡ true

pub record Waits (given : Given) (name : Text) (w : Walk) : Type 0 where
  pub held : Held
  pub position : ℕ
  pub at : w ≡ standing held (option name) position
  pub rows : held.rows ≡ rows_given given
  pub pending : held.pending ≡ Some (name, [])
  pub kind : kind_of name ≡ Some Valued
  pub fresh : is_given name given ≡ false

abbrev pub StandsAt : Given → Option Text → Walk → Type 0
StandsAt given None w = Stands given w
StandsAt given (Some name) w = Waits given name w

abbrev pub At : Reading → Walk → Type 0
At r w = StandsAt r.given r.waiting w

-- the reading after an option, where its name is new
pub fresh_next : (b : Bool) (r later : Reading) → (if b then None else Some r) ≡ Some later → (b ≡ false) × (r ≡ later)
fresh_next true r later e = cc
fresh_next false r later e = (refl, cc)

-- the walk after an option with its value, after a flag, and after an option whose value comes next
whole_valued : (given : Given) (name value word : Text) (h : Held) (p : ℕ) → kind_of name ≡ Some Valued → is_given name given ≡ false
    → (settled run_rules h).rows ≡ rows_given given
    → Stands (given ++ (name, value) ∷ []) (long_step (arg_by_long run_rules name) (Some value) word h p)
whole_valued given name value word h p k fresh rows = record {
  held = reacted run_rules (valued name) (value ∷ []) h;
  position = p;
  at = ap (λ found. long_step found (Some value) word h p) (valued_by_long name k);
  rows = ap (used (valued name) (value ∷ [])) rows ∙ used_valued given name value fresh;
  passes = refl;
}

whole_flag : (given : Given) (name word : Text) (h : Held) (p : ℕ) → kind_of name ≡ Some Flag → is_given name given ≡ false
    → (settled run_rules h).rows ≡ rows_given given
    → Stands (given ++ (name, codes "true") ∷ []) (long_step (arg_by_long run_rules name) None word h p)
whole_flag given name word h p k fresh rows = record {
  held = reacted run_rules (flag name) [] h;
  position = p;
  at = ap (λ found. long_step found None word h p) (flag_by_long name k);
  rows = ap (used (flag name) []) rows ∙ used_flag given name fresh;
  passes = refl;
}

starts_waiting : (given : Given) (name word : Text) (h : Held) (p : ℕ) → kind_of name ≡ Some Valued → is_given name given ≡ false
    → (settled run_rules h).rows ≡ rows_given given
    → Waits given name (long_step (arg_by_long run_rules name) None word h p)
starts_waiting given name word h p k fresh rows = record {
  held = record (settled run_rules h) { pending = Some (name, []) };
  position = p;
  at = ap (λ found. long_step found None word h p) (valued_by_long name k);
  rows = rows;
  pending = refl;
  kind = k;
  fresh = fresh;
}

abbrev long_at : Text → Option Text → Text → Held → ℕ → Walk
long_at name value word h p = long_step (arg_by_long run_rules name) value word h p

-- the walk goes on as the reading does: by the kind of the option, by the word, and by what the word stands for
option_steps : (given : Given) (name : Text) (value : Option Text) (word : Text) (h : Held) (p : ℕ) (later : Reading) (kind : Option Kind)
    → kind_of name ≡ kind → (settled run_rules h).rows ≡ rows_given given → after_met given (met_as kind name value) ≡ Some later
    → At later (long_at name value word h p)
option_steps given name value word h p later None k rows e = cc
option_steps given name (Some value) word h p later (Some Flag) k rows e = cc
option_steps given name (Some value) word h p later (Some Valued) k rows e =
    let new = fresh_next (is_given name given) (giving given name value) later e in
    let P : Reading → Type 0 = λ r. At r (long_at name (Some value) word h p) in
    subst P new.1 (whole_valued given name value word h p k new.0 rows)
option_steps given name None word h p later (Some Flag) k rows e =
    let new = fresh_next (is_given name given) (giving given name (codes "true")) later e in
    let P : Reading → Type 0 = λ r. At r (long_at name None word h p) in
    subst P new.1 (whole_flag given name word h p k new.0 rows)
option_steps given name None word h p later (Some Valued) k rows e =
    let new = fresh_next (is_given name given) (record { given = given; waiting = Some name }) later e in
    let P : Reading → Type 0 = λ r. At r (long_at name None word h p) in
    subst P new.1 (starts_waiting given name word h p k new.0 rows)

word_steps : (given : Given) (word : Text) (h : Held) (p : ℕ) (later : Reading) (text : Option Text) → after_hyphens word ≡ text
    → (settled run_rules h).rows ≡ rows_given given → after_met given (met_parts (option_map at_equals text)) ≡ Some later
    → At later (walked run_rules [] (standing h idle p) word)
word_steps given word h p later None t rows e = cc
word_steps given word h p later (Some []) t rows e = cc
word_steps given word h p later (Some (x ∷ xs)) t rows e =
    let name = (at_equals (x ∷ xs)).0 in
    subst (At later) (sym (walked_option word x xs h p t))
    (option_steps given name (at_equals (x ∷ xs)).1 word h p later (kind_of name) refl rows e)

-- ---- the value of an option

abbrev short_step : Option Text → Text → Text → Held → ℕ → Walk
short_step flags name word h p =
    let m = short_or_plain run_rules (option name) word flags h in
    after_step run_rules word (standing h (option name) p) m.0 m.1

abbrev value_step : Option Rule → Text → Text → Held → ℕ → Walk
value_step found name word h p =
    after_step run_rules word (standing h (option name) p) (option_word found name word h).0
    (next (option_word found name word h).1)

abbrev with_value : Text → Text → Option (Text × List Text) → Option (Text × List Text)
with_value name word o = Some ((started name o).0, (started name o).1 ++ word ∷ [])

-- one value is all that an option has
value_fills : (name word : Text) (o : Option (Text × List Text)) → o ≡ Some (name, [])
    → nat_lt (pending_count (valued name) (with_value name word o)) (most_values (valued name)) ≡ false
value_fills name word o e =
    ap (λ x. nat_lt (pending_count (valued name) (with_value name word x)) (most_values (valued name))) e
    ∙ ap (λ b. nat_lt (if b then 1 else 0) 1) ((bytes_eq-Decides name name).1 refl)

value_used : (name word : Text) (h : Held) → h.pending ≡ Some (name, []) → kind_of name ≡ Some Valued
    → (settled run_rules (pushed name word h)).rows ≡ used (valued name) (word ∷ []) h.rows
value_used name word h pending k =
    ap (λ o. settled_rows run_rules (with_value name word o) h.rows) pending
    ∙ ap (λ found. used_by_id found (word ∷ []) h.rows) (valued_by_id name k)

value_passes : (name word : Text) (h : Held) → h.pending ≡ Some (name, []) → kind_of name ≡ Some Valued
    → settle_passes run_rules false (pushed name word h) ≡ use_passes false (valued name) (word ∷ []) h.rows
value_passes name word h pending k =
    ap (λ o. option_map_or (λ p. option_map_or (λ a. use_passes false a p.1 h.rows) (arg_by_id run_rules p.0) true) (with_value name word o) true) pending
    ∙ ap (λ found. option_map_or (λ a. use_passes false a (word ∷ []) h.rows) found true) (valued_by_id name k)

-- a word with no hyphen is the value of the option that waits
value_taken : (given : Given) (name word : Text) (h : Held) (p : ℕ) → h.rows ≡ rows_given given → h.pending ≡ Some (name, [])
    → kind_of name ≡ Some Valued → is_given name given ≡ false → after_hyphen word ≡ None
    → Stands (given ++ (name, word) ∷ []) (walked run_rules [] (standing h (option name) p) word)
value_taken given name word h p rows pending k fresh e = record {
  held = pushed name word h;
  position = p;
  at = walked_waiting h name p word
      ∙ ap (λ b. step_by b (long_of word) (option name) word h p) (value_is_not_hyphens word (bytes_eq word hyphens) refl e)
      ∙ ap (λ o. step_by false o (option name) word h p) (long_of_value word e)
      ∙ ap (λ o. short_step o name word h p) (short_of_value word e)
      ∙ ap (λ found. value_step found name word h p) (valued_by_id name k)
      ∙ ap (λ b. standing (pushed name word h) (if b then option name else idle) p) (value_fills name word h.pending pending);
  rows = value_used name word h pending k ∙ ap (used (valued name) (word ∷ [])) rows ∙ used_valued given name word fresh;
  passes = value_passes name word h pending k ∙ use_valued name word h.rows (ap (has_row name) rows ∙ has_row_given name given ∙ fresh);
}

value_steps : (given : Given) (name word : Text) (w : Walk) (later : Reading) (o : Option Text) → after_hyphen word ≡ o
    → Waits given name w → (if is_some o then None else Some (giving given name word)) ≡ Some later → At later (walked run_rules [] w word)
value_steps given name word w later (Some text) b waits e = cc
value_steps given name word w later None b waits e =
    let is_later : giving given name word ≡ later = cc in
    let P : Reading → Type 0 = λ r. At r (walked run_rules [] w word) in
    subst P is_later (subst (λ (v : Walk). Stands (given ++ (name, word) ∷ []) (walked run_rules [] v word)) (sym waits.at)
    (value_taken given name word waits.held waits.position waits.rows waits.pending waits.kind waits.fresh b))

pub walk_steps : (given : Given) (waiting : Option Text) (w : Walk) (word : Text) (later : Reading) → StandsAt given waiting w
    → after_word_in given waiting word ≡ Some later → At later (walked run_rules [] w word)
walk_steps given None w word later stands e =
    subst (λ (v : Walk). At later (walked run_rules [] v word)) (sym stands.at)
    (word_steps given word stands.held stands.position later (after_hyphens word) refl stands.rows e)
walk_steps given (Some name) w word later waits e = value_steps given name word w later (after_hyphen word) refl waits e

-- ---- all words

walk_ends : (given : Given) (waiting : Option Text) (w : Walk) (all : Given) → StandsAt given waiting w
    → (if is_some waiting then None else Some given) ≡ Some all → Stands all w
walk_ends given (Some name) w all waits e = cc
walk_ends given None w all stands e =
    let is_all : given ≡ all = cc in subst (λ (g : Given). Stands g w) is_all stands

-- after all words the walk stands where the options were gathered
pub walk_gathers : (words : List Text) (r : Reading) (w : Walk) (all : Given) → At r w → gathered r words ≡ Some all
    → Stands all (fold (walked run_rules []) w words)
walk_gathers [] r w all at e = walk_ends r.given r.waiting w all at e
walk_gathers (word ∷ words) r w all at e =
    option_and_then_some (λ later. gathered later words) (after_word r word) all e
    (λ later took rest. walk_gathers words later (walked run_rules [] w word) all (walk_steps r.given r.waiting w word later at took) rest)

pub stands_at_first : Stands [] (walk_from nothing_held)
stands_at_first = record { held = nothing_held; position = 1; at = refl; rows = refl; passes = refl }
