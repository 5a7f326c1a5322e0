-- That a heap has its law, put in and taken out.
use Rattle.core_law.specs.HeapLaw.{HeapLaw}
use Rattle.core_law.specs.Logic.{Heap}
use Rattle.heap_table.specs.Ruled.{IsLawful}

pub by_law : {heap : Heap} → HeapLaw heap → IsLawful heap
unfolding IsLawful
by_law law = law

pub law_of : {heap : Heap} → IsLawful heap → HeapLaw heap
unfolding IsLawful
law_of law = law
