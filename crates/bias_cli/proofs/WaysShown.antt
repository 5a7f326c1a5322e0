-- The way to an end that a search found is shown, or it is cut short.
use Rattle.std.proofs.Common.{◌≡◌, ◌≢◌, ◌⊎◌, inl, inr, ℕ, Bool, true, false, nat_lt, if◌then◌else◌, List, length, Option, Some, None}
use Rattle.std.proofs.Common.{refl, sym, ap, ◌∙◌}
use Rattle.std.specs.Prelude.{Result, Ok, Err, IfOk}
use Rattle.std.proofs.lemmas.Bool.{false≢true}
use Rattle.std.proofs.lemmas.Option.{none-some, same_Some}
use Rattle.object_program.specs.Program.{ProgramText}
use Rattle.state_search.specs.Found.{Keys}
use Rattle.state_search.specs.Search.{IsUnderWay, IsWayTo}
use Rattle.outcome_search.specs.declared.ends.End.{End}
use Rattle.outcome_search.specs.declared.ends.End.TheVariants.{Spent, Stuck, Faulted, Ended}
use Rattle.outcome_search.specs.declared.outcome.Outcomes.{Outcomes}
use Rattle.outcome_search.specs.NextWords.{first_key, next_key}
use Rattle.outcome_search.specs.Outcomes.{top_fuel, top_steps}
use Rattle.outcome_search.specs.Witness.{end_by, IsCutShort}
use Rattle.outcome_search.proofs.CutShort.{cut_short}
use Rattle.outcome_search.proofs.Hashes.{none_has}
use Rattle.outcome_search.proofs.KnownEnds.{first_stuck_is, first_faulted_is, no_first_stuck, no_first_faulted}
use Rattle.bias_cli.specs.Outcomes.{end_to_show}
use Rattle.bias_cli.specs.inner.Ends.{IsSearchOf, first_of}

none_where_counted : (count : ℕ) → nat_lt 0 count ≡ true → count ≡ 0 → ⊥
none_where_counted count some none = false≢true (sym (ap (nat_lt 0) none) ∙ some)

-- an end that is to be shown has a first machine
pub has_first : (p : ProgramText) (f : Keys) (o : Outcomes) (end : End) → IsSearchOf p f o → end_to_show o ≡ Some end → first_of end o ≡ None → ⊥
has_first p f o end h shows none = go (nat_lt 0 o.stuck) (nat_lt 0 o.faulted) refl refl shows
  where
    first_none : (e : End) → e ≡ end → first_of e o ≡ None
    first_none e same = ap (λ (z : End). first_of z o) same ∙ none

    go : (b c : Bool) → nat_lt 0 o.stuck ≡ b → nat_lt 0 o.faulted ≡ c → (if b then Some Stuck else if c then Some Faulted else None) ≡ Some end → ⊥
    go true c some e is = none_where_counted o.stuck some (no_first_stuck p h.states f o h.counted (first_none Stuck (same_Some Stuck end is)))
    go false true e some is =
        none_where_counted o.faulted some (no_first_faulted p h.states f o h.counted (first_none Faulted (same_Some Faulted end is)))
    go false false e g is = none-some end is

-- the way to that machine
abbrev IsWay : Keys → ℕ → List ℕ → Type 0
IsWay f number choices =
    (next : List ℕ → ℕ → Option (List ℕ)) (many : ℕ) (first : List ℕ) (most : ℕ) → IsUnderWay next many first most f
    → IsWayTo next many first f.keys number choices

walked_or_cut : (p : ProgramText) (f : Keys) (o : Outcomes) (end : End) (number : ℕ) (choices : List ℕ) → IsSearchOf p f o → first_of end o ≡ Some number
    → IsWay f number choices → (end_by p choices ≡ Some end) ⊎ IsCutShort p end
walked_or_cut p f o Stuck number choices h is way =
    let k = first_stuck_is p h.states number f o h.counted is in
    let w = way (next_key p top_fuel top_steps) (length p.threads) (first_key p top_fuel top_steps) h.states h.counted.search.found in
    cut_short p choices k.0 Stuck h.valid (none_has p h.free) (w.leads k.0 k.1) k.2
walked_or_cut p f o Faulted number choices h is way =
    let k = first_faulted_is p h.states number f o h.counted is in
    let w = way (next_key p top_fuel top_steps) (length p.threads) (first_key p top_fuel top_steps) h.states h.counted.search.found in
    cut_short p choices k.0 Faulted h.valid (none_has p h.free) (w.leads k.0 k.1) k.2
walked_or_cut p f o Ended number choices h is way = absurd (none-some number is)
walked_or_cut p f o Spent number choices h is way = absurd (none-some number is)

-- so where no witness was found it is cut short
pub none_cut : {A E : Type 0} (r : Result (Option A) E) (p : ProgramText) (f : Keys) (o : Outcomes) (end : End) (number : ℕ) (choices shown : List ℕ)
    → IsSearchOf p f o → first_of end o ≡ Some number → IsWay f number choices → shown ≡ choices
    → IfOk r (λ found. found ≡ None → end_by p shown ≢ Some end) → IfOk r (λ found. found ≡ None → IsCutShort p end)
none_cut (Err e) p f o end number choices shown h is way same none = tt
none_cut (Ok found) p f o end number choices shown h is way same none = λ absent. go absent (walked_or_cut p f o end number choices h is way)
  where
    go : found ≡ None → (end_by p choices ≡ Some end) ⊎ IsCutShort p end → IsCutShort p end
    go absent (inl there) = absurd (none absent (ap (end_by p) same ∙ there))
    go absent (inr cut) = cut
