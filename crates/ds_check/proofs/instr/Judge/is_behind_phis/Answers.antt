use Rattle.std.proofs.Common.{◌<◌, ◌^◌, length, arith}
use Rattle.std.proofs.lemmas.Option.{slice_get_within}
use Rattle.ds_check.proofs.Judged.{block_in, behind_phis}
use Rattle.ds_check.proofs.instr.Judge.is_behind_phis.Goals as goal

pub offset_bounds-self-site : goal.offset_bounds-self-site
offset_bounds-self-site c =
    let inside : c.args.site.block < length c.args.self.now.function.now.blocks =
    slice_get_within c.args.self.now.function.now.blocks c.args.site.block c.requires.site.1.block
    c.requires.site.2.block in
    let few : length c.args.self.now.function.now.blocks < 2 ^ 32 = c.requires.few in
    omega (arith, inside, few)

pub bounds-self-site : goal.bounds-self-site
bounds-self-site c = block_in c.args.self.now.function.now c.args.self.now.fronts.now c.requires.fronts
    c.requires.site.0 c.args.site c.requires.site.1 c.requires.site.2

pub returns : goal.returns
returns c = λ n p site. behind_phis c.args.self.now.function.now c.args.self.now.fronts.now c.requires.fronts n
    c.args.site p site
