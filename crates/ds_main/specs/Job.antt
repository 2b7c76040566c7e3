-- The words of a job.
use Rattle.std.specs.Prelude.{◌≡◌, ℕ, ◌&&◌, nat_le, if◌then◌else◌, List, [], ◌∷◌, length, map, codes}
use Rattle.std.specs.Prelude.{Option, Some, None, String, string_bytes}
use Rattle.std.specs.List.{list_all}
use Rattle.std.specs.Option.{unwrap_or, option_map}
use Rattle.std.specs.Str.{bytes_eq}
use Rattle.ds_lex.specs.Bytes.{is_digit}
use Rattle.ds_lex.specs.Number.{number_of}
use Rattle.ds_map.specs.Bounds.{Bounds, default_limits}
use Rattle.ds_main.specs.declared.job.Options as code
use Rattle.ds_main.specs.declared.job.Setting as given
use Rattle.ds_main.specs.declared.job.Job.{Job}
use Rattle.ds_main.specs.declared.job.Job.TheVariants.{Replay, Check, Instrument}

-- the bytes of each word
abbrev pub texts : {Z : Type 0} → List (String Z) → List (List ℕ)
texts words = map string_bytes words

-- the number that 1 to 20 decimal digits spell, where it is below 2 ^ 64
abbrev pub number_in : List ℕ → Option ℕ
number_in word = if list_all is_digit word && nat_le (length word) 20 then number_of word else None

-- the options of a run that were given
pub record Options : Type 0 where
  pub seed : Option ℕ
  pub pages : Option ℕ
  pub fuel : Option ℕ
  pub logs : Option ℕ

abbrev pub no_options : Options
no_options = record { seed = None; pages = None; fuel = None; logs = None }

-- the number of an option, where it was not given before
abbrev pub once : (before number : Option ℕ) → Option ℕ
once None number = number
once (Some n) number = None

-- with one more option, its name and its number; none where there is no such option, it was given before, or this is
-- no number
abbrev pub with_option : Options → (name number : List ℕ) → Option Options
with_option options name number =
    if bytes_eq name (codes "--seed")
    then option_map (λ n. record options { seed = Some n }) (once options.seed (number_in number)) else
    (if bytes_eq name (codes "--pages")
    then option_map (λ n. record options { pages = Some n }) (once options.pages (number_in number)) else
    (if bytes_eq name (codes "--fuel")
    then option_map (λ n. record options { fuel = Some n }) (once options.fuel (number_in number)) else
    (if bytes_eq name (codes "--logs")
    then option_map (λ n. record options { logs = Some n }) (once options.logs (number_in number)) else None)))

abbrev pub if_options : (Options → Option Options) → Option Options → Option Options
if_options go None = None
if_options go (Some options) = go options

-- with the options that these words give, each a name and its number, in any order
abbrev pub options_from : Options → List (List ℕ) → Option Options
options_from options [] = Some options
options_from options (name ∷ []) = None
options_from options (name ∷ number ∷ words) =
    if_options (λ more. options_from more words) (with_option options name number)

-- the limits of a run with these options: 1 to 4,096 pages, 1 to 2,000,000 units for each thread, and at most
-- 1,048,576 logs
abbrev pub limits_of : Options → Option Bounds
limits_of options =
    let pages = unwrap_or options.pages default_limits.pages in
    let fuel = unwrap_or options.fuel default_limits.fuel in
    let logs = unwrap_or options.logs default_limits.logs in
    if (nat_le 1 pages && nat_le pages 4096) && (nat_le 1 fuel && nat_le fuel 2000000) && nat_le logs 1048576
    then Some (record default_limits { pages = pages; fuel = fuel; logs = logs }) else None

-- what a run is asked for: the seed of its schedule, which is 0 where none is given, and its limits
pub record Setting : Type 0 where
  pub seed : ℕ
  pub limits : Bounds

abbrev pub setting_of : Options → Option Setting
setting_of options =
    option_map (λ lim. record { seed = unwrap_or options.seed 0; limits = lim }) (limits_of options)

abbrev pub if_setting : Option Options → Option Setting
if_setting None = None
if_setting (Some options) = setting_of options

-- what a run is asked for whose words are `replay` and then options
abbrev pub setting_in : List (List ℕ) → Option Setting
setting_in [] = None
setting_in (command ∷ words) =
    if bytes_eq command (codes "replay") then if_setting (options_from no_options words) else None

-- these are the words of the job
abbrev pub IsJob : List (List ℕ) → Job → Type 0
IsJob words (Replay seed lim) = setting_in words ≡ Some (record { seed = seed; limits = lim })
IsJob words Check = words ≡ codes "check" ∷ []
IsJob words Instrument = words ≡ codes "instrument" ∷ []

abbrev pub HasJob : List (List ℕ) → Type 0
HasJob words = (job : Job) × IsJob words job

abbrev pub NoJob : List (List ℕ) → Type 0
NoJob words = (job : Job) → IsJob words job → ⊥

-- HELPERS: no clause of a public call speaks of them

-- the options as code has them
abbrev pub options_with : code.Options → Options
options_with options =
    record { seed = options.seed; pages = options.pages; fuel = options.fuel; logs = options.logs }

-- what a run is asked for as code has it
abbrev pub setting_with : given.Setting → Setting
setting_with setting = record { seed = setting.seed; limits = setting.limits }
