-- How the tables of the code stand for those of the definition.
use Rattle.std.specs.Prelude.{ℕ, Bool, List, slice_index, nat_lt}
use Rattle.std.specs.List.{list_all}
use Rattle.ripemd160.specs.declared.compress.Function.{Function}
use Rattle.ripemd160.specs.declared.compress.Function.TheVariants.{F0, F1, F2, F3, F4}
use Rattle.ripemd160.specs.declared.compress.Round.{Round}
use Rattle.ripemd160.specs.Ripemd160.{Step, f0, f1, f2, f3, f4, round_steps}

-- the function that a name stands for
abbrev pub function_of : Function → ℕ → ℕ → ℕ → ℕ
function_of F0 = f0
function_of F1 = f1
function_of F2 = f2
function_of F3 = f3
function_of F4 = f4

-- step i of a round
abbrev pub step_at : Round → ℕ → Step
step_at round i = record {
  word = slice_index round.words i;
  shift = slice_index round.shifts i;
  function = function_of round.function;
  constant = round.constant;
}

-- the sixteen steps of a round
abbrev pub steps_of : Round → List Step
steps_of round = round_steps (function_of round.function) round.constant round.words round.shifts

-- a round names only words that a block has
abbrev pub has_words : Round → Bool
has_words round = list_all (λ word. nat_lt word 16) round.words
