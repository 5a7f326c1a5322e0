-- What words tell, while they are read, word by word and item by item.
use Rattle.std.proofs.Common.{◌≡◌, ℕ, suc, ◌<◌, ◌^◌, List, [], ◌∷◌, subst}
use Rattle.machine_words.specs.declared.unread.Unread.{Unread}
use Rattle.machine_words.specs.declared.unread.Unread.TheVariants.{NoMemory, NoMachine}
use Rattle.machine_words.specs.inner.Telling.{IsLost, GoesOn, HasWord, HasNumber, TellsThread, TellsThreads, TellsRow, TellsRows}
use Rattle.machine_words.specs.MadeWords.{read_row}
use Rattle.machine_words.specs.ThreadWords.{read_thread}

-- what holds where this does
pub lost_by : {A B : Type 0} (e : Unread) → (A → B) → IsLost B e → IsLost A e
lost_by NoMemory f h = tt
lost_by NoMachine f h = λ a. h (f a)

-- of the next word, once it is known
pub then_on : (P : ℕ → List ℕ → Type 0) (xs : List ℕ) (w : ℕ) (ws : List ℕ) → xs ≡ w ∷ ws → GoesOn P xs → P w ws
then_on P xs w ws is h = subst (λ (ys : List ℕ). GoesOn P ys) is h

pub weaker : (P Q : ℕ → List ℕ → Type 0) (xs : List ℕ) → ((w : ℕ) (ws : List ℕ) → P w ws → Q w ws) → GoesOn P xs → GoesOn Q xs
weaker P Q [] f h = h
weaker P Q (w ∷ ws) f h = f w ws h

pub has_word : (P : ℕ → List ℕ → Type 0) (xs : List ℕ) → GoesOn P xs → HasWord xs
has_word P xs h = weaker P (λ w ws. Unit {0}) xs (λ w ws a. tt) h

-- one row more
pub row_next : (n less : ℕ) (xs : List ℕ) → n ≡ suc less → TellsRows n xs → TellsRow xs × TellsRows less (read_row xs).1
row_next n less xs e h = subst (λ (k : ℕ). TellsRows k xs) e h

pub thread_next : (n less : ℕ) (xs : List ℕ) → n ≡ suc less → TellsThreads n xs → TellsThread xs × TellsThreads less (read_thread xs).1
thread_next n less xs e h = subst (λ (k : ℕ). TellsThreads k xs) e h

-- the first word is a number
pub has_number : (P : ℕ → List ℕ → Type 0) (xs : List ℕ) → GoesOn (λ w rest. (w < 2 ^ 32) × P w rest) xs → HasNumber xs
has_number P xs h = weaker (λ w rest. (w < 2 ^ 32) × P w rest) (λ w ws. w < 2 ^ 32) xs (λ w ws a. a.0) h
