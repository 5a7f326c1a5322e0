-- Without biasing a revocation as a whole breaks the clause of classes: it counts. So it is to be of a mark with the bias pattern.
use Rattle.core_locks.proofs.Prelude.{◌≡◌, ℕ, eq-eqb, Bool, false, cond, List, [], ◌∷◌, refl, ap, ◌∙◌, arith, PlainObject}
use Rattle.core_locks.proofs.Prelude.{WordId, Revocations, LastBulk, class_by, with_word, ThreadView, World, Fits}
use Rattle.lock_policy.specs.declared.policy.Verdict.TheVariants.{Single}
use Rattle.lock_policy.specs.Policy.{decided}
use Rattle.core_world.specs.Threads.Stages.{Revocation}
use Rattle.core_world.specs.RevocationRules.{words_after, in_turn, revoke, revocation_rules, revocation_writes}
use Rattle.core_bias.specs.Revoking.{revoked_world}
use Rattle.core_bias.proofs.BlindRules.{blind_turn, blind_revoke, classless_stays}

pub unbiased_breaks : (w : World) (P : List PlainObject) (r : ℕ) (b : Revocation) (l : ThreadView)
    → w.biasing ≡ false → Fits w P → Fits (revoked_world w r b l) P → ⊥
unfolding revocation_writes
unbiased_breaks w P r b l off v x =
    let class = class_by w.shape w.words in
    let c = class b.object in
    let f = w.words in
    let none = v.classes.plain off c in
    let verdict : decided (f (Revocations c)) (f (LastBulk c)) b.now ≡ (Single, 1) = λ i. decided (none.1 i) (none.2 i) b.now in
    let words : words_after (revocation_writes w.shape r b f) f ≡ words_after (in_turn (revocation_rules w.shape class r c b (Single, 1)) f) f =
    ap (λ d. words_after (in_turn (revocation_rules w.shape class r c b d) f) f) verdict in
    let g : WordId → ℕ = with_word (Revocations c) 1 f in
    let turning = blind_turn (revoke b.object false ∷ []) (blind_revoke b.object false, tt) in
    let one : words_after (revocation_writes w.shape r b f) f (Revocations c) ≡ 1 =
    ap (λ (z : WordId → ℕ). z (Revocations c)) words ∙ classless_stays (in_turn (revoke b.object false ∷ []) g) g (Revocations c) (turning.stores g) refl
    ∙ ap (λ (z : Bool). cond z 1 (f (Revocations c))) (eq-eqb c c refl) in
    let zero = (x.classes.plain off c).1 in
    omega (arith, one, zero)
