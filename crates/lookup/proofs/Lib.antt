pub mod KeyCode
