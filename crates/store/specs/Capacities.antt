-- What a store takes at most, as the rules have it.
-- Assumes nothing.
use Rattle.rules.specs.Table.{Limits}
use Rattle.store.specs.declared.capacity.Capacity.{Capacity}

abbrev pub limits_of : Capacity → Limits
limits_of c = record { operations = c.operations; predecessors = c.predecessors }
