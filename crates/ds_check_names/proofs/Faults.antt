-- The fault of names is that of more names.
use Rattle.std.proofs.Common.{◌≡◌, List, ◌∷◌, ◌++◌, sym, ap, ◌∙◌, subst, append_assoc}
use Rattle.std.specs.Prelude.{Result, Ok, Err, IsErr, IsErrAnd, IfErr}
use Rattle.ds_ast.specs.declared.name.Name.{Name}
use Rattle.ds_check_names.specs.declared.fault.ScopeFault.{ScopeFault}
use Rattle.ds_check_names.specs.declared.fault.ScopeFault.TheVariants.{Twice, Memory}
use Rattle.ds_check_names.specs.Fault.{IsFaultOf}

pub fault_further : (fault : ScopeFault) (names more all : List Name) → names ++ more ≡ all → IsFaultOf names fault
    → IsFaultOf all fault
fault_further (Twice name) names more all e twice = record {
  before = twice.before;
  after = twice.after ++ more;
  split = sym e ∙ ap (λ l. l ++ more) twice.split ∙ append_assoc twice.before (name.now ∷ twice.after) more;
  first_time = twice.first_time;
  none_before = twice.none_before;
}
fault_further Memory names more all e twice = tt

-- where it is passed on
pub passed_on : {T : Type 0} (r : Result T ScopeFault) (fault : ScopeFault) (names more all : List Name)
    → names ++ more ≡ all → IsErr r × IsErrAnd r (λ g. g ≡ fault)
    → IsFaultOf names fault → IfErr r (λ g. IsFaultOf all g)
passed_on (Ok x) fault names more all e passed is = absurd passed.1
passed_on (Err g) fault names more all e passed is =
    fault_further g names more all e (subst (IsFaultOf names) (sym passed.1) is)

-- where it is that of the same names
pub passed_same : {T : Type 0} (r : Result T ScopeFault) (fault : ScopeFault) (names all : List Name) → names ≡ all
    → IsErr r × IsErrAnd r (λ g. g ≡ fault)
    → IsFaultOf names fault → IfErr r (λ g. IsFaultOf all g)
passed_same (Ok x) fault names all e passed is = absurd passed.1
passed_same (Err g) fault names all e passed is =
    subst (λ ns. IsFaultOf ns g) e (subst (IsFaultOf names) (sym passed.1) is)
