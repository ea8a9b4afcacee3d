use Rattle.std.proofs.Common.{◌≡◌, map, drop, true}
use Rattle.meaning_room.specs.Meaning.{with_values}
use Rattle.source_meaning.specs.Runnable.{params_have_room}
use Rattle.meaning_room.specs.Names.{env_of}
use Rattle.source_meaning.proofs.room.give_all.Given as goal

-- what is left, given from here on, gives what the whole does; and it has places
abbrev pub invariant-loop-place : goal.invariant-loop-place
invariant-loop-place l =
    (with_values (drop l.place l.params) (map (λ e. e.items) (drop l.place l.elements)) (env_of l.names)
    ≡ with_values l.params (map (λ e. e.items) l.elements) (env_of l.initial.names))
    × (params_have_room (drop l.place l.params) ≡ true)
