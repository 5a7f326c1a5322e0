pub mod HandoverIs
