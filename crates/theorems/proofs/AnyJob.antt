-- What is true of any job, by which kind it is: the delivered figure at every end, and that the repository's self-call is never taken.
use Rattle.con_reply.specs.Jobs.{loads as sends_dcf, writes as sends_write}
use Rattle.manager.specs.Calls.{loads, reads, writes}
use Rattle.theorems.specs.Figures.{Figures}
use Rattle.theorems.specs.SelfCall.{SelfCallNever}
use Rattle.theorems.proofs.SendsDelivered.{no_self_call, sends_figure}
use Rattle.theorems.proofs.ReadsBrought.{read_figure, read_no_self_call}

pub figures : Figures
unfolding Figures
figures lent earlier node (writes mode index sub bytes) now later e = sends_figure lent earlier node (sends_write mode index sub bytes) now e later
figures lent earlier node (reads mode index sub) now later e = read_figure lent earlier node mode index sub now e later
figures lent earlier node (loads mode dcf) now later e = sends_figure lent earlier node (sends_dcf mode dcf) now e later

pub never_self_call : SelfCallNever
unfolding SelfCallNever
never_self_call lent earlier node (writes mode index sub bytes) now later e =
    no_self_call lent earlier node (sends_write mode index sub bytes) now e later
never_self_call lent earlier node (reads mode index sub) now later e = read_no_self_call lent earlier node mode index sub now e later
never_self_call lent earlier node (loads mode dcf) now later e = no_self_call lent earlier node (sends_dcf mode dcf) now e later
