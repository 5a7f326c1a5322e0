use Rattle.closed_heap_laws.proofs.OtherEnds.{two_marks, two_threads_keep, kept_and_named, ringed_and_named, ringed_and_kept, ringed_twice, lost}
use Rattle.closed_heap_laws.proofs.OtherEnds.{waits_without}
use Rattle.closed_heap_laws.proofs.refused.no_monitor_in_two_places_or_in_none.Goals as goal

pub returns-clause-marks : goal.returns-clause-marks
returns-clause-marks c = two_marks

pub returns-clause-threads : goal.returns-clause-threads
returns-clause-threads c = two_threads_keep

pub returns-clause-both : goal.returns-clause-both
returns-clause-both c = kept_and_named

pub returns-clause-ring_and_mark : goal.returns-clause-ring_and_mark
returns-clause-ring_and_mark c s words ks p o m apart = ringed_and_named s words ks apart p o m

pub returns-clause-ring_and_thread : goal.returns-clause-ring_and_thread
returns-clause-ring_and_thread c s words ks p t m apart = ringed_and_kept s words ks apart p t m

pub returns-clause-ring_twice : goal.returns-clause-ring_twice
returns-clause-ring_twice c s words ks p q m apart = ringed_twice s words ks apart p q m

pub returns-clause-lost : goal.returns-clause-lost
returns-clause-lost c = lost

pub returns-clause-waits : goal.returns-clause-waits
returns-clause-waits c = waits_without
