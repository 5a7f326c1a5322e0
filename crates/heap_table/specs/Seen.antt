-- A heap, a pass and what is left at the end, as contracts see them.
use Rattle.std.specs.Prelude.{◌≡◌, ℕ, zero, suc, ◌+◌, ◌-◌, ◌%◌, ◌^◌, ◌<◌, List, [], ◌∷◌, length, map, slice_index, Option, Some, slice_get, drop}
use Rattle.atomic_table.specs.Seated.{TableId}
use Rattle.plain_monitor.specs.declared.entry.Logged.{Logged}
use Rattle.core_world.specs.declared.word_id.WordId.{WordId}
use Rattle.core_world.specs.declared.word_id.WordId.TheVariants.{Hold}
use Rattle.core_world.specs.Threads.ThreadView.{ThreadView, DumpShot}
use Rattle.core_world.specs.Opening.{first_known}
use Rattle.core_world.specs.World.{World}
use Rattle.core_law.specs.Logic.{Heap, heap_of}
use Rattle.core_law.specs.Reached.{IsReachable}
use Rattle.core_law.specs.Sound.{Sound}
use Rattle.heap_table.specs.declared.counts.ClassCounts.{ClassCounts}
use Rattle.core_world.specs.There.{IsIn}
use Rattle.heap_table.specs.Layout.{place_of}
use Rattle.heap_table.specs.Ruled.{IsReal}
use Rattle.heap_table.specs.Tallies.{counts_shown}

pub record HeapSeen : Type 0 where
  pub table : TableId
  pub heap : Heap
  -- how many entries a page of a log may have
  pub room : ℕ

pub record PassSeen : Type 0 where
  pub table : TableId
  pub known : ThreadView
  -- how many entries its log may have before it hands out its next page
  pub limit : ℕ
  -- how many a page of it may have
  pub room : ℕ
  -- where its thread's words begin
  pub home : ℕ
  -- how many classes the heap has
  pub classes : ℕ
  -- the first word of its generator
  pub first : ℕ
  -- the shot that it is taking: it has room for the log lengths of so many threads, and for the cells of so many
  -- objects
  pub threads : ℕ
  pub objects : ℕ
  pub cut : List ℕ
  pub cells : List (Option ℕ × ℕ)

-- the pass steps on this heap
pub record IsOf (h : HeapSeen) (p : PassSeen) : Type 0 where
  pub table : p.table ≡ h.table
  pub room : p.room ≡ h.room
  pub within : p.known.thread < h.heap.shape.threads
  pub home : p.home ≡ place_of h.heap.shape (Hold p.known.thread 0)
  pub classes : p.classes ≡ h.heap.shape.classes
  pub first : p.first ≡ (h.heap.start + p.known.thread) % 2 ^ 32
  pub threads : p.threads ≡ h.heap.shape.threads
  pub objects : p.objects ≡ length h.heap.shape.objects
  -- what its thread knows it knew in a sound world
  pub real : IsReal h.heap p.known

-- a thread's pass, as the heap begins: it is stopped, and has made no step
abbrev pub first_pass : HeapSeen → ℕ → ℕ → PassSeen
first_pass h limit t =
    record {
      table = h.table;
      known = first_known t;
      limit = limit;
      room = h.room;
      home = place_of h.heap.shape (Hold t 0);
      classes = h.heap.shape.classes;
      first = (h.heap.start + t) % 2 ^ 32;
      threads = h.heap.shape.threads;
      objects = length h.heap.shape.objects;
      cut = [];
      cells = [];
    }

-- those of n threads from t on
abbrev pub first_passes : HeapSeen → ℕ → ℕ → ℕ → List PassSeen
first_passes h limit t zero = []
first_passes h limit t (suc n) = first_pass h limit t ∷ first_passes h limit (suc t) n

abbrev pub knowns : List PassSeen → List ThreadView
knowns ps = map (λ (p : PassSeen). p.known) ps

abbrev pub logs_of : List PassSeen → List (List Logged)
logs_of ps = map (λ (p : PassSeen). p.known.log) ps

-- how many entries of its log it has handed out
abbrev pub given_of : PassSeen → ℕ
given_of p = p.limit - p.room

-- the entries of its log that it has not handed out
abbrev pub page_of : PassSeen → List Logged
page_of p = drop (given_of p) p.known.log

abbrev pub pages_of : List PassSeen → List (List Logged)
pages_of ps = map page_of ps

abbrev pub shots_of : List PassSeen → List (List DumpShot)
shots_of ps = map (λ (p : PassSeen). p.known.shots) ps

abbrev pub counts_of_all : List PassSeen → List (List ClassCounts)
counts_of_all ps = map (λ (p : PassSeen). counts_shown 0 p.classes p.known.counts) ps

-- these are what the threads from t on know, in their order
abbrev pub InOrder : ℕ → List ThreadView → Type 0
InOrder t [] = Unit {0}
InOrder t (k ∷ ks) = (k.thread ≡ t) × InOrder (t + 1) ks

-- the words and what these threads know are those of one sound world, which the heap comes to
pub record LastWorld (heap : Heap) (words : List ℕ) (ks : List ThreadView) : Type 0 where
  pub world : World
  pub is_of : heap_of world ≡ heap
  pub sound : Sound world
  pub comes : IsReachable heap world
  pub words_are : (n : WordId) → IsIn heap.shape n → slice_index words (place_of heap.shape n) ≡ world.words n
  pub knows : (i : ℕ) (k : ThreadView) → slice_get ks i ≡ Some k → world.known k.thread ≡ k

-- what is left of a heap at its end
pub record ClosedSeen : Type 0 where
  pub heap : Heap
  pub words : List ℕ
  -- of each thread the entries that it has not handed out
  pub logs : List (List Logged)
  pub shots : List (List DumpShot)
  pub counts : List (List ClassCounts)
