use Rattle.std.proofs.Common.{arith}
use Rattle.ds_map.proofs.Stacks.{IsMapped-stacks, lt-end-of-IsMapped}
use Rattle.ds_map.proofs.places.location.Goals as goal

pub returns-then-address-lt-HEAP_START-clause-mapped :
    goal.returns-then-address-lt-HEAP_START-clause-mapped
returns-then-address-lt-HEAP_START-clause-mapped c =
    let inside = c.location_among-then-address-lt-HEAP_START.ensures.inside in (
      λ some. let both = inside.0 some in IsMapped-stacks c.args.limits.now c.args.address both.0 both.1,
      λ mapped. inside.1 (
        omega arith,
        lt-end-of-IsMapped c.args.limits.now c.args.address mapped (omega arith)
            (omega arith),
      ),
    )
