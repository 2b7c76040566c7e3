use Rattle.std.proofs.Common.{ap, get_or}
use Rattle.ds_parse_global.specs.Places.{place_in}
use Rattle.ds_parse_global.proofs.Keyed.{pushed}
use Rattle.ds_parse_global.proofs.structs.Structs.push.Goals as goal

pub invariant_of-self-in-Ok : goal.invariant_of-self-in-Ok
invariant_of-self-in-Ok c = λ q.
    let at = c.len-at.result in let d = c.index-as_slice-at.result in
    pushed c.self.inside.lines c.push.new.self c.args.line (get_or c.as_slice.result.now at d) d at q
    (place_in c.self.inside.places q) (place_in c.note.new.self q) c.in_ok-push.ensures.ok c.len-at.ensures
    (ap (λ lines. get_or lines at d) c.as_slice.ensures) (c.self.invariant q) (c.in-Ok.ensures.ok q)
