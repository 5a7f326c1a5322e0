-- What holds of the declarations and the open section that lines have made so far, seen from before the lines that are ahead.
use Rattle.std.proofs.Common.{◌≡◌, ℕ, ◌+◌, ◌<◌, ◌≤◌, Bool, true, false, if◌then◌else◌, List, []}
use Rattle.std.proofs.Common.{◌∷◌, ◌++◌, length, map, refl, arith, Option, Some, None, IsTrue}
use Rattle.std.specs.List.{AllByRecursion}
use Rattle.object_program.specs.Name.{is_name}
use Rattle.object_program.specs.Program.{ProgramText, total_of}
use Rattle.object_program.specs.Valid.{is_among, AreNames, AreObjects, AreTargets, IsInstruction, EndsOnce, IsThread}
use Rattle.program_syntax.specs.Reading.{Before, ends_section, labels_on, number_after_line, labels_ahead}
use Rattle.program_syntax.specs.Refusal.{is_end, is_closed}
use Rattle.object_program.specs.declared.program.ObjectDef.{ObjectDef}
use Rattle.object_program.specs.declared.program.LabelDef.{LabelDef}
use Rattle.object_program.specs.declared.program.ThreadDef.{ThreadDef}
use Rattle.object_program.specs.declared.program.Code.{Code}
use Rattle.object_program.specs.declared.program.Code.TheVariants.{Set}
use Rattle.object_program.specs.declared.program.Code.TheVariants.{Jump, Jlt, Jeq, Dump, End}
use Rattle.program_syntax.specs.declared.keyword.Keyword.{Keyword}
use Rattle.object_program.specs.Limits.{most_locals}
use Rattle.plain_monitor.specs.Limits.{most_threads, most_slots, most_objects, most_classes}
use Rattle.plain_monitor.proofs.Lists.{all_weaker}

-- what `IsProgram` says but for the count of threads at the end
pub record IsAllowedText (p : ProgramText) : Type 0 where
  pub class_names : AreNames (map (λ c. c.name) p.classes)
  pub class_slots : AllByRecursion (λ c. c.slots ≤ most_slots) p.classes
  pub classes_few : length p.classes ≤ most_classes
  pub object_names : AreNames (map (λ d. d.name) p.objects)
  pub objects : AreObjects (length p.classes) 0 p.objects
  pub objects_few : total_of p.objects ≤ most_objects
  pub thread_names : AreNames (map (λ t. t.name) p.threads)
  pub threads : AllByRecursion (IsThread (length p.classes) (length p.objects)) p.threads
  pub threads_few : length p.threads ≤ most_threads

-- what lines hold for the section that is open before them: its labels on them, where the next instruction has number n, and
-- whether they close it
pub record Ahead : Type 0 where
  pub labels : ℕ → List LabelDef
  pub closed : Bool

abbrev pub ahead_of : List (List ℕ) → Ahead
ahead_of lines = record { labels = λ n. labels_ahead n lines; closed = is_closed lines }

-- the same of a line with these words and this keyword, and later lines
abbrev pub ahead_with : List (List ℕ) → Option Keyword → List (List ℕ) → Ahead
ahead_with words keyword later = record {
  labels = λ n. if ends_section keyword then [] else labels_on n words keyword ++ labels_ahead (number_after_line n keyword) later;
  closed = if ends_section keyword then is_end keyword else is_closed later;
}

-- all labels of the open section
abbrev pub labels_with : Ahead → ThreadDef → List LabelDef
labels_with ahead t = t.labels ++ ahead.labels (length t.code + 1)

-- an instruction of an open section, which isn't its end
pub record IsOpenCode (classes locals objects : ℕ) (labels : List LabelDef) (c : Code) : Type 0 where
  pub goes_on : c ≡ End → ⊥
  pub operands : IsInstruction classes locals objects labels c

-- the thread of an open section, where the closed ones have these names
pub record IsOpen (classes objects : ℕ) (names : List (List ℕ)) (ahead : Ahead) (t : ThreadDef) : Type 0 where
  pub name : IsTrue (is_name t.name)
  pub new : is_among names t.name ≡ false
  pub room : length names < most_threads
  pub locals : AreNames t.locals
  pub locals_few : length t.locals ≤ most_locals
  pub labels : AreNames (map (λ l. l.name) t.labels)
  pub targets : AreTargets (length t.code + 1) 1 t.labels
  pub code : AllByRecursion (IsOpenCode classes (length t.locals) objects (labels_with ahead t)) t.code
  pub closed : ahead.closed ≡ true

-- the thread may be that of the open section of this program
abbrev pub IsOpenIn : ProgramText → Ahead → ThreadDef → Type 0
IsOpenIn p ahead t = IsOpen (length p.classes) (length p.objects) (map (λ u. u.name) p.threads) ahead t

abbrev pub IsSection : ProgramText → Ahead → Option ThreadDef → Type 0
IsSection p ahead None = Unit {0}
IsSection p ahead (Some t) = IsOpenIn p ahead t

pub record IsAllowedSoFar (b : Before) (ahead : Ahead) : Type 0 where
  pub text : IsAllowedText b.text
  pub section : IsSection b.text ahead b.section

-- more classes, locals or declarations leave an instruction's operands in range
pub IsInstruction-more : (b c l m o p : ℕ) (labels : List LabelDef) → b ≤ c → l ≤ m → o ≤ p → (i : Code) → IsInstruction b l o labels i
    → IsInstruction c m p labels i
IsInstruction-more b c l m o p labels bc lm op (Set x v) h = (omega arith, h.1)
IsInstruction-more b c l m o p labels bc lm op (Jump t) h = h
IsInstruction-more b c l m o p labels bc lm op (Jlt x y t) h = (omega arith, omega arith, h.2)
IsInstruction-more b c l m o p labels bc lm op (Jeq x y t) h = (omega arith, omega arith, h.2)
IsInstruction-more b c l m o p labels bc lm op Dump h = tt
IsInstruction-more b c l m o p labels bc lm op End h = tt
IsInstruction-more b c l m o p labels bc lm op _ h = omega arith

pub IsOpenCode-more : (b l m o : ℕ) (labels : List LabelDef) → l ≤ m → (c : Code) → IsOpenCode b l o labels c → IsOpenCode b m o labels c
IsOpenCode-more b l m o labels lm c h =
    record { goes_on = h.goes_on; operands = IsInstruction-more b b l m o o labels (omega arith) lm (omega arith) c h.operands }

pub IsThread-more : (b c o p : ℕ) → b ≤ c → o ≤ p → (t : ThreadDef) → IsThread b o t → IsThread c p t
IsThread-more b c o p bc op t h =
    let l = length t.locals in
    record {
      locals = h.locals;
      locals_few = h.locals_few;
      labels = h.labels;
      targets = h.targets;
      code = all_weaker _ _ (λ i k. IsInstruction-more b c l l o p t.labels bc (omega arith) op i k) t.code h.code;
      code_few = h.code_few;
      ends = h.ends;
    }

pub AreObjects-more : (c e n : ℕ) → c ≤ e → (ds : List ObjectDef) → AreObjects c n ds → AreObjects e n ds
AreObjects-more c e n ce [] h = tt
AreObjects-more c e n ce (d ∷ ds) h = ((omega arith, h.0.1, h.0.2, h.0.3), AreObjects-more c e (n + d.size) ce ds h.1)

pub AreObjects-push : (c n m : ℕ) (ds : List ObjectDef) (d : ObjectDef) → n + total_of ds ≡ m
    → AreObjects c n ds → AreObjects c m (d ∷ []) → AreObjects c n (ds ++ d ∷ [])
AreObjects-push c n m [] d e all here = ((here.0.0, omega arith, here.0.2, here.0.3), tt)
AreObjects-push c n m (x ∷ xs) d e all here = (all.0, AreObjects-push c (n + x.size) m xs d (omega arith) all.1 here)

pub total_of-push : (ds : List ObjectDef) (d : ObjectDef) → total_of (ds ++ d ∷ []) ≡ total_of ds + d.size
total_of-push [] d = omega arith
total_of-push (x ∷ xs) d = omega (arith, total_of-push xs d)

-- instructions none of which is an `end`, and then one
pub EndsOnce-push : (b l o : ℕ) (labels : List LabelDef) (cs : List Code) → AllByRecursion (IsOpenCode b l o labels) cs → EndsOnce (cs ++ End ∷ [])
EndsOnce-push b l o labels [] h = refl
EndsOnce-push b l o labels (c ∷ []) h = (h.0.goes_on, refl)
EndsOnce-push b l o labels (c ∷ d ∷ cs) h = (h.0.goes_on, EndsOnce-push b l o labels (d ∷ cs) h.1)
