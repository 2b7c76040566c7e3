-- Worked runs by computing.
use Rattle.std.proofs.Common.{◌≡◌, true}
use Rattle.ds_plain.specs.State.{first_state}
use Rattle.ds_meaning.specs.Program.{program_of}
use Rattle.ds_tried.specs.Totals.{totals_of}
use Rattle.ds_tried.specs.Modules.{Example, setting_in, end_of, stops_in, IsWorked}
use Rattle.ds_tried.proofs.Decides.{runs, is_run}

pub worked : (e : Example) → runs (setting_in e) (first_state (program_of true e.lim e.code) e.lim) e.made ≡ true
    → stops_in (end_of e) ≡ e.stops → (end_of e).out ≡ e.out → totals_of e.made e.stops ≡ e.counts → IsWorked e
worked e runs_ ends prints counts =
    record {
      run = (is_run (setting_in e) (first_state (program_of true e.lim e.code) e.lim) e.made).so runs_;
      ends = ends;
      prints = prints;
      counts = counts;
    }
