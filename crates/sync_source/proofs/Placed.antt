-- Where instructions stand in code.
use Rattle.std.proofs.Common.{◌≡◌, ℕ, ◌+◌, List, [], ◌∷◌, ◌++◌, length, refl, subst, arith, append_assoc, length-append}
use Rattle.object_program.specs.declared.program.Code.{Code}
use Rattle.object_program.specs.declared.program.Code.TheVariants as instr
use Rattle.plain_machine.specs.Running.{instruction_at}
use Rattle.sync_source.specs.Source.{Statements, Nothing, Plain, Sync, If, While}
use Rattle.sync_source.specs.Compiled.{size, code_at}
use Rattle.sync_source.specs.inner.Alike.{HasAt}

pub has_first : (code : List Code) (at : ℕ) (a b : List Code) → HasAt code at (a ++ b) → HasAt code at a
has_first code at [] b h = tt
has_first code at (c ∷ a) b h = (h.0, has_first code (at + 1) a b h.1)

has_last : (code : List Code) (at : ℕ) (a b : List Code) → HasAt code at (a ++ b) → HasAt code (at + length a) b
has_last code at [] b h = let e : at ≡ at + 0 = omega arith in subst (λ (n : ℕ). HasAt code n b) e h
has_last code at (c ∷ a) b h =
    let e : at + 1 + length a ≡ at + length (c ∷ a) = omega arith in
    subst (λ (n : ℕ). HasAt code n b) e (has_last code (at + 1) a b h.1)

-- statements have as many instructions as they need
pub code_size : (b : Statements) (at : ℕ) → length (code_at at b) ≡ size b
code_size Nothing at = refl
code_size (Plain c r) at = let h = code_size r (at + 1) in omega (arith, h)
code_size (Sync x b r) at =
    let body = code_at (at + 1) b in
    let rest = code_at (at + 1 + size b + 1) r in
    let h = code_size b (at + 1) in
    let k = code_size r (at + 1 + size b + 1) in
    let l = length-append body (instr.Exit x ∷ rest) in
    omega (arith, h, k, l)
code_size (If t b c r) at =
    let to = at + 1 + size c + 1 in
    let h = code_size c (at + 1) in
    let k = code_size b to in
    let i = code_size r (to + size b) in
    let l = length-append (code_at (at + 1) c) (instr.Jump (to + size b + 1) ∷ (code_at to b ++ code_at (to + size b) r)) in
    let m = length-append (code_at to b) (code_at (to + size b) r) in
    omega (arith, h, k, i, l, m)
code_size (While t b r) at =
    let to = at + 1 + 1 in
    let h = code_size b to in
    let k = code_size r (to + size b + 1) in
    let l = length-append (code_at to b) (instr.Jump (at + 1) ∷ code_at (to + size b + 1) r) in
    omega (arith, h, k, l)

-- what stands after statements
pub has_after : (code : List Code) (at : ℕ) (b : Statements) (rest : List Code) → HasAt code at (code_at at b ++ rest) → HasAt code (at + size b) rest
has_after code at b rest h =
    subst (λ (n : ℕ). HasAt code (at + n) rest) (code_size b at) (has_last code at (code_at at b) rest h)

seam : (pre rest : List Code) (c : Code) → instruction_at (pre ++ c ∷ rest) (length pre) ≡ c
seam [] rest c = refl
seam (d ∷ pre) rest c = seam pre rest c

has_all : (cs pre : List Code) → HasAt (pre ++ cs) (length pre) cs
has_all [] pre = tt
has_all (c ∷ cs) pre =
    let n : length (pre ++ c ∷ []) ≡ length pre + 1 = omega (arith, length-append pre (c ∷ [])) in
    let rest = has_all cs (pre ++ c ∷ []) in
    let rest' = subst (λ (l : List Code). HasAt l (length (pre ++ c ∷ [])) cs) (append_assoc pre (c ∷ []) cs) rest in
    (seam pre cs c, subst (λ (m : ℕ). HasAt (pre ++ c ∷ cs) m cs) n rest')

-- all instructions stand in their own code
pub has_itself : (cs : List Code) → HasAt cs 0 cs
has_itself cs = has_all cs []

-- after its last instruction code ends
pub ends_after : (cs : List Code) → instruction_at cs (length cs) ≡ instr.End
ends_after [] = refl
ends_after (c ∷ cs) = ends_after cs
