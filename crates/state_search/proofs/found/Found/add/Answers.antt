use Rattle.std.proofs.Common.{rules, ◌≡◌, if◌then◌else◌, List, Bool, not, true, false, [], ◌∷◌, ◌++◌, map, refl, sym, ap, ◌∙◌}
use Rattle.std.specs.List.{list_any}
use Rattle.std.proofs.lemmas.Bool.{true≢false, false≢true}
use Rattle.indexmap.specs.IndexSet.{insert_key}
use Rattle.state_search.specs.declared.found.Origin.{Origin}
use Rattle.state_search.specs.Found.{Keys}
use Rattle.state_search.specs.inner.Among.{same_words, is_among}
use Rattle.state_search.proofs.Inserts.{insert_mapped, among_mapped}
use Rattle.state_search.proofs.found.Found.add.Goals as goal

-- an origin is added where the key is new
with_origin : (origins : List Origin) (origin : Origin) (new there : Bool) → new ≡ not there → new ≡ true
    → origins ++ origin ∷ [] ≡ (if there then origins else origins ++ origin ∷ [])
with_origin origins origin new true is h = absurd (true≢false (sym h ∙ is))
with_origin origins origin new false is h = refl

same_origins : (origins : List Origin) (origin : Origin) (new there : Bool) → new ≡ not there → new ≡ false
    → origins ≡ (if there then origins else origins ++ origin ∷ [])
same_origins origins origin new true is h = refl
same_origins origins origin new false is h = absurd (false≢true (sym h ∙ is))

pub returns-in_ok-map_err-clause-added : goal.returns-in_ok-map_err-clause-added
returns-in_ok-map_err-clause-added c =
    let f = c.args.self.now in
    let key = c.args.key.items in
    let inserts : c.insert.new.self.keys ≡ insert_key (λ x y. same_words x.items y.items) c.self.inside.keys.keys c.args.key = search rules in
    let words : map (λ v. v.items) c.insert.new.self.keys ≡ insert_key same_words f.keys key =
    ap (map (λ v. v.items)) inserts ∙ insert_mapped (λ v. v.items) c.self.inside.keys.keys c.args.key
    ∙ ap (λ (f : Keys). insert_key same_words f.keys key) c.self.view_is in
    let told : c.in_ok-is_new.is_new ≡ not (list_any (λ x. same_words key x.items) c.self.inside.keys.keys) = search rules in
    let is_new : c.in_ok-is_new.is_new ≡ not (is_among f.keys key) =
    told ∙ ap not (sym (among_mapped (λ v. v.items) c.self.inside.keys.keys key)) ∙ ap (λ (f : Keys). not (is_among f.keys key)) c.self.view_is in
    let pushed : c.push.new.self.items ≡ c.self.inside.origins.items ++ c.args.origin ∷ [] = search rules in
    let origins : c.push.new.self.items ≡ (if is_among f.keys key then f.origins else f.origins ++ c.args.origin ∷ []) =
    pushed ∙ ap (λ (f : Keys). f.origins ++ c.args.origin ∷ []) c.self.view_is
    ∙ with_origin f.origins c.args.origin c.in_ok-is_new.is_new (is_among f.keys key) is_new c.if-is_new.true in
    λ i. record { keys = words i; origins = origins i; gone = ap (λ (f : Keys). f.gone) c.self.view_is i }

pub returns-else-is_new-clause-added : goal.returns-else-is_new-clause-added
returns-else-is_new-clause-added c =
    let f = c.args.self.now in
    let key = c.args.key.items in
    let inserts : c.insert.new.self.keys ≡ insert_key (λ x y. same_words x.items y.items) c.self.inside.keys.keys c.args.key = search rules in
    let words : map (λ v. v.items) c.insert.new.self.keys ≡ insert_key same_words f.keys key =
    ap (map (λ v. v.items)) inserts ∙ insert_mapped (λ v. v.items) c.self.inside.keys.keys c.args.key
    ∙ ap (λ (f : Keys). insert_key same_words f.keys key) c.self.view_is in
    let told : c.in_ok-is_new.is_new ≡ not (list_any (λ x. same_words key x.items) c.self.inside.keys.keys) = search rules in
    let is_new : c.in_ok-is_new.is_new ≡ not (is_among f.keys key) =
    told ∙ ap not (sym (among_mapped (λ v. v.items) c.self.inside.keys.keys key)) ∙ ap (λ (f : Keys). not (is_among f.keys key)) c.self.view_is in
    let origins : c.self.inside.origins.items ≡ (if is_among f.keys key then f.origins else f.origins ++ c.args.origin ∷ []) =
    ap (λ (f : Keys). f.origins) c.self.view_is
    ∙ same_origins f.origins c.args.origin c.in_ok-is_new.is_new (is_among f.keys key) is_new c.if-is_new.false in
    λ i. record { keys = words i; origins = origins i; gone = ap (λ (f : Keys). f.gone) c.self.view_is i }
