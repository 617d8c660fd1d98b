-- The filters of reply data as a program in C is handed them.
use Rattle.refusal.specs.Answer.{Answer, refused, full}
use Rattle.filters.specs.declared.Filters.{Filters}
use Rattle.filters.specs.declared.Filter.{Filter}
use Rattle.c_values.specs.declared.WickFilters.{WickFilters}
use Rattle.c_values.specs.declared.WickFilter.{WickFilter}

abbrev pub filters_out : Answer Filters → WickFilters
filters_out (refused k) = record { refusal = k; mode = 0; entries = 0 }
filters_out (full f) = record { refusal = 0; mode = f.mode; entries = f.entries }

abbrev pub filter_out : Answer Filter → WickFilter
filter_out (refused k) = record { refusal = k; address = 0; instance = 0; mask = 0 }
filter_out (full f) = record { refusal = 0; address = f.address; instance = f.instance; mask = f.mask }
