use Rattle.escp2_laws.proofs.Stands.{fault-stands}
use Rattle.escp2_laws.proofs.standing.a_fault_stands.Goals as goal

pub returns-clause-within : goal.returns-clause-within
returns-clause-within c = λ bytes at cause e. (fault-stands bytes at cause e).within

pub returns-clause-before : goal.returns-clause-before
returns-clause-before c = λ bytes at cause e. (fault-stands bytes at cause e).before

pub returns-clause-stands : goal.returns-clause-stands
returns-clause-stands c = λ bytes rest at cause e. (fault-stands bytes at cause e).stands rest
