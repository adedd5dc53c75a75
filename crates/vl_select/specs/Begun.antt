-- What the program of a plan begins with.
use Rattle.std.specs.Prelude.{ℕ, false, nat_lt, List, [], length, map, if◌then◌else◌}
use Rattle.vl_values.specs.declared.group.Group.{Group}
use Rattle.vl_values.specs.declared.group.Group.TheVariants.{Main, Pre}
use Rattle.vl_values.specs.declared.pred.Pred.{Pred}
use Rattle.vl_catalog.specs.declared.catalog.Catalog.{Catalog}
use Rattle.vl_model.specs.Entries.{is_lookup_table}
use Rattle.vl_model.specs.Visiting.{entry_reads}
use Rattle.vl_plan.specs.declared.select_plan.SelectPlan.{SelectPlan}
use Rattle.vl_port.specs.declared.act.Act.TheVariants.{Find}
use Rattle.vl_select.specs.declared.entry_read.EntryRead.{EntryRead}
use Rattle.vl_select.specs.Progress.{Progress, shards_known}

-- entries are read without locks
abbrev pub entry_read : ℕ × Pred → EntryRead
entry_read read = record { shard = read.0; find = Find read.1 false }

-- the tables of rows are read in main, and those of entries in pre
abbrev pub group_of : Catalog → ℕ → Group
group_of catalog table = if is_lookup_table catalog table then Pre else Main

abbrev pub beginning : Catalog → SelectPlan → List EntryRead → Progress
beginning catalog plan entries = record {
  table = plan.pred.table;
  what = plan.what;
  sorts = plan.sorts;
  limit = plan.limit;
  route = plan.route;
  find = Find plan.pred plan.locking;
  group = group_of catalog plan.pred.table;
  entries = entries;
  looked = 0;
  ksids = [];
  shards = shards_known catalog plan.pred.table plan.route (nat_lt 0 (length entries)) [];
  read = 0;
  rows = [];
  tally = record { rows = 0; bytes = 0 };
  tries = 0;
}

abbrev pub begun : Catalog → SelectPlan → Progress
begun catalog plan = beginning catalog plan (map entry_read (entry_reads catalog plan.route))
