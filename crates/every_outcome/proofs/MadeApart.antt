-- What is there stays there, and what two threads make doesn't depend on who makes first: each has numbers of its own.
use Rattle.std.proofs.Common.{◌≡◌, ◌≢◌, ℕ, ◌≤◌, Bool, true, false, ◌||◌, nat_lt, List, [], ◌∷◌, ◌++◌, length, slice_set}
use Rattle.std.proofs.Common.{Option, Some, None, refl, sym, ap, ◌∙◌, subst, arith, length-set, length-append}
use Rattle.std.specs.List.{list_all}
use Rattle.std.proofs.lemmas.Bool.Decides.{nat_tests}
use Rattle.std.proofs.lemmas.Option.{cond_some}
use Rattle.plain_monitor.specs.declared.entry.Entry.{Entry}
use Rattle.plain_monitor.specs.Monitor.{only_if}
use Rattle.plain_monitor.specs.Made.{Numbering, made_by, maker_of, first_made, is_there, needs, may_create, take_created}
use Rattle.every_outcome.proofs.Places.{read_beside, none_shorter, sets_commute, all_pass}

or_more : (a b d : Bool) → (b ≡ true → d ≡ true) → (a || b) ≡ true → (a || d) ≡ true
or_more true b d f h = refl
or_more false b d f h = f h

-- what is there after one more object of thread t
abbrev made_more : List (List ℕ) → ℕ → ℕ → List (List ℕ)
made_more made t c = slice_set made t (made_by made t ++ c ∷ [])

there_more : (n : Numbering) (made : List (List ℕ)) (t c o : ℕ) → is_there n made o ≡ true → is_there n (made_more made t c) o ≡ true
there_more n made t c o = or_more (nat_lt o (first_made n)) _ _ (λ h. grind (arith, nat_tests, h, longer))
  where
    longer : length (made_by made (maker_of n o)) ≤ length (made_by (made_more made t c) (maker_of n o))
    longer = none_shorter made t (maker_of n o) (made_by made t ++ c ∷ []) (omega (arith, length-append (made_by made t) (c ∷ [])))

-- what is there stays there
pub stays_there : (n : Numbering) (made after : List (List ℕ)) (t : ℕ) (e : Entry) (p : Option (ℕ × ℕ)) → take_created n made t e p ≡ Some after
    → (o : ℕ) → is_there n made o ≡ true → is_there n after o ≡ true
stays_there n made after t e None takes o here =
    subst (λ (x : List (List ℕ)). is_there n x o ≡ true) (cond_some (list_all (is_there n made) (needs e)) made after takes).1 here
stays_there n made after t e (Some p) takes o here =
    subst (λ (x : List (List ℕ)). is_there n x o ≡ true) (cond_some (may_create n made t p) (made_more made t p.1) after takes).1
    (there_more n made t p.1 o here)

-- what is there where t took e, and u then f, or the other way round
pub record BothMade (n : Numbering) (left right : List (List ℕ)) (t u : ℕ) (e f : Entry) (p q : Option (ℕ × ℕ)) : Type 0 where
  pub made : List (List ℕ)
  pub after_left : take_created n left u f q ≡ Some made
  pub after_right : take_created n right t e p ≡ Some made

-- an entry that makes nothing finds what it needs after another thread's, too
still_found : (n : Numbering) (made after right : List (List ℕ)) (t u : ℕ) (e f : Entry) (q : Option (ℕ × ℕ)) → take_created n made t e None ≡ Some after
    → take_created n made u f q ≡ Some right → take_created n right t e None ≡ Some right
still_found n made after right t u e f q takes takes2 =
    let found = (cond_some (list_all (is_there n made) (needs e)) made after takes).0 in
    ap (λ (b : Bool). only_if b right) (all_pass (is_there n made) (is_there n right) (needs e) (stays_there n made right u f q takes2) found)

-- what t makes changes neither what u may make nor its number
may_still : (n : Numbering) (made : List (List ℕ)) (t u c : ℕ) (q : ℕ × ℕ) → t ≢ u → may_create n (made_more made t c) u q ≡ may_create n made u q
may_still n made t u c q apart = rw (length-set made t (made_by made t ++ c ∷ []), read_beside made t u (made_by made t ++ c ∷ []) [] apart) refl

-- one more of t and one more of u
two_more : (n : Numbering) (made left : List (List ℕ)) (t u c : ℕ) (f : Entry) (q : ℕ × ℕ) → t ≢ u → made_more made t c ≡ left
    → may_create n made u q ≡ true → take_created n left u f (Some q) ≡ Some (slice_set (made_more made t c) u (made_by made u ++ q.1 ∷ []))
two_more n made left t u c f q apart is may =
    subst (λ (x : List (List ℕ)). take_created n x u f (Some q) ≡ Some (slice_set (made_more made t c) u (made_by made u ++ q.1 ∷ []))) is
    (rw (may_still n made t u c q apart ∙ may, read_beside made t u (made_by made t ++ c ∷ []) [] apart) refl)

pub both_made : (n : Numbering) (made left right : List (List ℕ)) (t u : ℕ) (e f : Entry) (p q : Option (ℕ × ℕ)) → t ≢ u
    → take_created n made t e p ≡ Some left → take_created n made u f q ≡ Some right → BothMade n left right t u e f p q
both_made n made left right t u e f None q apart takes takes2 =
    let same : made ≡ left = (cond_some (list_all (is_there n made) (needs e)) made left takes).1 in
    record {
      made = right;
      after_left = subst (λ (x : List (List ℕ)). take_created n x u f q ≡ Some right) same takes2;
      after_right = still_found n made left right t u e f q takes takes2;
    }
both_made n made left right t u e f (Some p) None apart takes takes2 =
    let same : made ≡ right = (cond_some (list_all (is_there n made) (needs f)) made right takes2).1 in
    record {
      made = left;
      after_left = still_found n made right left u t f e (Some p) takes2 takes;
      after_right = subst (λ (x : List (List ℕ)). take_created n x t e (Some p) ≡ Some left) same takes;
    }
both_made n made left right t u e f (Some p) (Some q) apart takes takes2 =
    let k = cond_some (may_create n made t p) (made_more made t p.1) left takes in
    let l = cond_some (may_create n made u q) (made_more made u q.1) right takes2 in
    let swap = sets_commute made t u (made_by made t ++ p.1 ∷ []) (made_by made u ++ q.1 ∷ []) apart in
    record {
      made = slice_set (made_more made t p.1) u (made_by made u ++ q.1 ∷ []);
      after_left = two_more n made left t u p.1 f q apart k.1 l.0;
      after_right = two_more n made right u t q.1 e p (λ same. apart (sym same)) l.1 k.0 ∙ ap Some (sym swap);
    }
