use Rattle.std.proofs.Common.{◌≡◌, map, drop, true}
use Rattle.meaning_room.specs.Meaning.{env_after, in_turn}
use Rattle.source_meaning.specs.Runnable.{all_of, has_room}
use Rattle.meaning_room.specs.Names.{env_of}
use Rattle.source_meaning.proofs.execute.+statement.Given as goal

-- what is left, done from here on, ends as the whole does
abbrev pub invariant-execute_all-loop-statement : goal.invariant-execute_all-loop-statement
invariant-execute_all-loop-statement l =
    (in_turn (map (env_after l.world) (drop l.statement-index l.body)) (env_of l.names)
    ≡ in_turn (map (env_after l.world) l.body) (env_of l.initial.names))
    × (all_of (map has_room (drop l.statement-index l.body)) ≡ true)
