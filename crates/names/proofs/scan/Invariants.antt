-- What is listed of the names passed and what the rest names are what the whole names.
use lib.ListN.{length}
use Rattle.names.proofs.ScanLaws.{Scanning}
use Rattle.names.proofs.scan.Given as goal

abbrev pub invariant-names : goal.invariant-names
invariant-names l = Scanning l.sheet l.names l.list (length l.yielded)
