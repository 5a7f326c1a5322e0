-- The text of the handover program for n items, line by line.
use Rattle.std.specs.Prelude.{ℕ, List, [], ◌∷◌, ◌++◌, codes, decimal}
use Rattle.std.specs.List.{flat_map}

-- the items, n objects without slots, and the flag, an object with one slot
abbrev pub declared_lines : ℕ → List (List ℕ)
declared_lines n =
    codes "class Item 0" ∷ codes "class Flag 1" ∷ (codes "array items Item " ++ decimal n)
    ∷ codes "object flag Flag" ∷ []

-- the first thread enters each item, sets the flag to 1 and waits until it is 2, and enters the items from the 20th on once more
abbrev pub first_lines : ℕ → List (List ℕ)
first_lines n =
    codes "thread t1" ∷ codes "local f" ∷ codes "local o" ∷ codes "local i" ∷ codes "local n"
    ∷ codes "local one" ∷ codes "local two" ∷ codes "local s" ∷ codes "ref f flag" ∷ codes "set i 0"
    ∷ (codes "set n " ++ decimal n) ∷ codes "set one 1" ∷ codes "set two 2" ∷ codes "label a"
    ∷ codes "elem o items i" ∷ codes "enter o" ∷ codes "exit o" ∷ codes "add i i one" ∷ codes "jlt i n a"
    ∷ codes "enter f" ∷ codes "put f 0 one" ∷ codes "notifyall f" ∷ codes "label b" ∷ codes "get s f 0"
    ∷ codes "jeq s two c" ∷ codes "wait f" ∷ codes "jump b" ∷ codes "label c" ∷ codes "exit f"
    ∷ codes "set i 19" ∷ codes "jlt i n d" ∷ codes "jump e" ∷ codes "label d" ∷ codes "elem o items i"
    ∷ codes "enter o" ∷ codes "exit o" ∷ codes "add i i one" ∷ codes "jlt i n d" ∷ codes "label e"
    ∷ codes "print n" ∷ codes "end" ∷ []

-- the second thread waits until the flag is 1, enters each item, and sets the flag to 2
abbrev pub second_lines : ℕ → List (List ℕ)
second_lines n =
    codes "thread t2" ∷ codes "local f" ∷ codes "local o" ∷ codes "local i" ∷ codes "local n"
    ∷ codes "local one" ∷ codes "local two" ∷ codes "local s" ∷ codes "ref f flag" ∷ codes "set i 0"
    ∷ (codes "set n " ++ decimal n) ∷ codes "set one 1" ∷ codes "set two 2" ∷ codes "enter f"
    ∷ codes "label a" ∷ codes "get s f 0" ∷ codes "jeq s one b" ∷ codes "wait f" ∷ codes "jump a"
    ∷ codes "label b" ∷ codes "exit f" ∷ codes "label c" ∷ codes "elem o items i" ∷ codes "enter o"
    ∷ codes "exit o" ∷ codes "add i i one" ∷ codes "jlt i n c" ∷ codes "enter f" ∷ codes "put f 0 two"
    ∷ codes "notifyall f" ∷ codes "exit f" ∷ codes "end" ∷ []

-- a line feed ends each line
abbrev pub handover_text : ℕ → List ℕ
handover_text n = flat_map (λ line. line ++ 10 ∷ []) (declared_lines n ++ first_lines n ++ second_lines n)
